-- The text of a lock (ITU-R M.625, mode B: each position is sent as DX, and again as RX five words
-- later; M.476 and M.625 for what is printed). That each lock has a text of its own, from letters,
-- is this profile's. `first` is the role of word 0 of the lock, and `words` gives each word's
-- number.
use Rattle.std.specs.Prelude.{◌≡◌, ◌<◌, ℕ, zero, suc, ◌+◌, if◌then◌else◌, Bool, List, [], ◌∷◌}
use Rattle.std.specs.Prelude.{◌++◌, length, map, slice_index}
use Rattle.nx_code.specs.Reading.{Reception, shift_after_all, text}
use Rattle.nx_code.specs.declared.shifts.Shift.TheVariants.{Letters}
use Rattle.nx_fec.specs.emissions.Pairing.{Counted, five_before, counts_as, pairing}
use Rattle.nx_sync.specs.Words.{word_of_lock, first_role, role_of, is_dx, last_bit}
use Rattle.nx_sync.specs.declared.step.Role.{Role}
use Rattle.nx_sync.specs.declared.step.Role.TheVariants.{Dx}

-- The position that word k completes. An RX word is paired with the word five before it, or with
-- nothing where k < 5, since the words before the lock are no words of it. A DX word completes
-- none.
unfoldable pub taken_at : Role → (ℕ → ℕ) → ℕ → List Reception
taken_at first words k =
    if is_dx (role_of first k) then [] else pairing (five_before words k) (counts_as (words k)) ∷ []

-- the positions that the first n words complete, in order
unfoldable pub positions : Role → (ℕ → ℕ) → ℕ → List Reception
positions first words zero = []
positions first words (suc n) = positions first words n ++ taken_at first words n

-- what the DX words among the first n words count as, oldest first
unfoldable pub dx_words : Role → (ℕ → ℕ) → ℕ → List Counted
dx_words first words zero = []
dx_words first words (suc n) =
    dx_words first words n ++ (if is_dx (role_of first n) then counts_as (words n) ∷ [] else [])

-- the text that the first n words print
abbrev pub text_after : Role → (ℕ → ℕ) → ℕ → List ℕ
text_after first words n = text (positions first words n) Letters

-- these words come next in a lock, behind its first n words, and the first of them is a DX word
pub record AreNext (first : Role) (words : ℕ → ℕ) (n : ℕ) (next : List ℕ) : Type 0 where
  pub dx : role_of first n ≡ Dx
  pub are : (k : ℕ) → k < length next → words (n + k) ≡ slice_index next k

-- a byte of the text of a lock, and its place: the index, among all bits, of the last bit of the RX
-- word that prints it
pub record PlacedByte : Type 0 where
  pub byte : ℕ
  pub place : ℕ

-- what word k of the lock at t prints, in the shift that the positions before it leave, from
-- letters; with its place: the index of the last bit of the word
unfoldable pub printed_by : Role → (ℕ → ℕ) → ℕ → ℕ → List PlacedByte
printed_by first words t k =
    map (λ b. record { byte = b; place = last_bit t k })
    (text (taken_at first words k) (shift_after_all (positions first words k) Letters))

-- the text that the first n words of the lock at t print, each byte with its place
unfoldable pub text_by : Role → (ℕ → ℕ) → ℕ → ℕ → List PlacedByte
text_by first words t zero = []
text_by first words t (suc n) = text_by first words t n ++ printed_by first words t n

-- the text of the first n words of the lock at t, in these bits
abbrev pub lock_text : List Bool → ℕ → ℕ → List PlacedByte
lock_text bits t n = text_by (first_role bits t) (word_of_lock bits t) t n

-- the bytes alone
unfoldable pub bytes_of : List PlacedByte → List ℕ
bytes_of text = map (λ b. b.byte) text
