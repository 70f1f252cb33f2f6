-- What is told of the bytes that a start cuts of its log (this profile).
use Rattle.std.specs.Prelude.{◌≡◌, ◌⊎◌, ◌==◌, ℕ, Bool, true, false, List, [], ◌∷◌, ◌++◌, codes, decimal, length, position, take}
use Rattle.std.specs.Prelude.{unwrap_or}
use Rattle.std.specs.List.{flat_map}
use Rattle.nx_code.specs.Reading.{newline}
use Rattle.nx_log.specs.Entries.{IsWholeEntry}

-- the bytes begin with those of a logged entry
abbrev pub BeginsWithEntry : List ℕ → Type 0
BeginsWithEntry bytes =
    (entry : List ℕ) × (rest : List ℕ) × IsWholeEntry entry × (bytes ≡ entry ++ rest)

-- the line with which the bytes begin, without its end
abbrev pub first_line : List ℕ → List ℕ
first_line bytes =
    take (unwrap_or (position (λ byte. byte == newline) bytes) (length bytes)) bytes

-- These are the heads of the whole entries among bytes, in order: at each place where one begins,
-- the line that stands there.
abbrev pub AreHeads : List ℕ → List (List ℕ) → Type 0
AreHeads [] heads = heads ≡ []
AreHeads (byte ∷ bytes) heads =
    (BeginsWithEntry (byte ∷ bytes) × (more : List (List ℕ))
    × (heads ≡ first_line (byte ∷ bytes) ∷ more) × AreHeads bytes more)
    ⊎ ((BeginsWithEntry (byte ∷ bytes) → ⊥) × AreHeads bytes heads)

-- what is told of an entry that is cut, of this head
abbrev pub head_told : List ℕ → List ℕ
head_told head = codes "navtex: cut: " ++ (head ++ codes "\n")

-- what is told of so many bytes that are cut, which begin on this line of the log; whether it is
-- one byte
abbrev pub count_told_of : Bool → ℕ → ℕ → List ℕ
count_told_of true count line =
    codes "navtex: " ++ (decimal count ++ (codes " byte at line " ++ (decimal line
    ++ codes " of the log is no kept entry, and is cut\n")))
count_told_of false count line =
    codes "navtex: " ++ (decimal count ++ (codes " bytes at line " ++ (decimal line
    ++ codes " of the log are no kept entry, and are cut\n")))

abbrev pub count_told : ℕ → ℕ → List ℕ
count_told count line = count_told_of (count == 1) count line

-- what is told of bytes that are cut and begin on this line, with these heads among them; where
-- there are no bytes, nothing
abbrev pub cut_told : ℕ → List ℕ → List (List ℕ) → List ℕ
cut_told line [] heads = []
cut_told line (byte ∷ bytes) heads =
    count_told (length (byte ∷ bytes)) line ++ flat_map head_told heads

-- the text is what is told of some bytes that are cut
abbrev pub TellsOfSomeCut : List ℕ → Type 0
TellsOfSomeCut text =
    (line : ℕ) × (bytes : List ℕ) × (heads : List (List ℕ)) × AreHeads bytes heads
    × (text ≡ cut_told line bytes heads)
