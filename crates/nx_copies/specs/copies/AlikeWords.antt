-- Which positions of a lock have two words that count alike (ITU-R M.625, mode B, for positions
-- and their two words). `first` is the role of word 0 of the lock, and `words` gives each word's
-- number.
use Rattle.std.specs.Prelude.{ℕ, zero, suc, ◌==◌, Bool, true, false, if◌then◌else◌}
use Rattle.std.specs.Prelude.{List, [], ◌∷◌, ◌++◌}
use Rattle.nx_fec.specs.emissions.Pairing.{Counted, traffic, idle_signal, counts_as, five_before}
use Rattle.nx_sync.specs.Words.{is_dx, role_of}
use Rattle.nx_sync.specs.declared.step.Role.{Role}

-- two words count alike: both as one combination, or both as idle
abbrev pub count_alike : Counted → Counted → Bool
count_alike (traffic m) (traffic n) = m == n
count_alike idle_signal idle_signal = true
count_alike dx rx = false

-- whether the two words of the position count alike that word k completes; a DX word completes none
unfoldable pub alike_at : Role → (ℕ → ℕ) → ℕ → List Bool
alike_at first words k =
    if is_dx (role_of first k) then []
    else count_alike (five_before words k) (counts_as (words k)) ∷ []

-- the same of each position that the first n words complete, in order
unfoldable pub alike : Role → (ℕ → ℕ) → ℕ → List Bool
alike first words zero = []
alike first words (suc n) = alike first words n ++ alike_at first words n
