-- What word k of a lock would bring, as it is computed word by word. `Locks.antt` has the rule;
-- that the least word that brings a change is the word of the rule is proved in
-- `proofs/lemmas/words/Computed.antt`.
use Rattle.std.specs.Prelude.{ℕ, ◌-◌, ◌==◌, nat_le, Bool, ◌&&◌, List, Option, Some, None}
use Rattle.std.specs.Prelude.{if◌then◌else◌}
use Rattle.nx_sync.specs.declared.step.Role.{Role}
use Rattle.nx_sync.specs.declared.step.Change.{Change}
use Rattle.nx_sync.specs.declared.step.Change.TheVariants.{Ended, LostLock}
use Rattle.nx_code.specs.Table.{phasing_1}
use Rattle.nx_sync.specs.Words.{losing_count, word_of_lock, first_role, role_of, is_dx, wrong_until}

-- Whether word k is the word that releases a lock as Ended. The word three before it is a DX word,
-- at least word 2. That word and the DX word before it, which is word k - 5, are phasing signal 1.
unfoldable pub releases_as_ended : Role → (ℕ → ℕ) → ℕ → Bool
releases_as_ended first words k =
    nat_le 5 k && is_dx (role_of first (k - 3))
    && (words (k - 3) == phasing_1) && (words (k - 5) == phasing_1)

-- Which change word k would bring to a lock that still stands there, by its words and the role of
-- word 0. It is Ended where it releases the lock as ended, else LostLock where as many of the last
-- words are wrong as lose a lock.
unfoldable pub change_at : Role → (ℕ → ℕ) → ℕ → Option Change
change_at first words k =
    if releases_as_ended first words k
    then Some Ended
    else (if nat_le losing_count (wrong_until words k) then Some LostLock else None)

-- which change word k would bring to the lock at t
abbrev pub release : List Bool → ℕ → ℕ → Option Change
release bits t k = change_at (first_role bits t) (word_of_lock bits t) k
