-- What the bytes of a kept log stand for.
use Rattle.std.specs.Prelude.{◌≡◌, ◌≢◌, ◌⊎◌, ℕ, ◌+◌, ◌<◌, ◌≤◌, List, [], ◌∷◌, ◌++◌, length, take, ◌==◌, count_by, Option, None, Some}

-- the gate that is closed: a space
abbrev pub closed_gate : ℕ
closed_gate = 32

-- the gate that `put` opens: a newline
abbrev pub open_gate : ℕ
open_gate = 10

abbrev pub line_feed : ℕ
line_feed = 10

-- the line on which a byte behind these stands, from 1
abbrev pub line_behind : List ℕ → ℕ
line_behind bytes = count_by (λ byte. byte == line_feed) bytes + 1

-- the first byte, where there is one
abbrev pub first_byte : List ℕ → Option ℕ
first_byte [] = None
first_byte (byte ∷ bytes) = Some byte

module _ (is_record : List ℕ → Type 0) where
  -- the records in order, each behind a gate that isn't closed
  abbrev pub IsBehindOpenGates : List (List ℕ) → List ℕ → Type 0
  IsBehindOpenGates [] bytes = bytes ≡ []
  IsBehindOpenGates (first ∷ records) bytes = (gate : ℕ) × (rest : List ℕ) × (gate ≢ closed_gate)
      × is_record first
      × (bytes ≡ gate ∷ (first ++ rest)) × IsBehindOpenGates records rest

-- the list begins with this one, where any rest may stand behind it
abbrev pub BeginsWith : {A : Type 0} → List A → List A → Type 0
BeginsWith {A} front all = (rest : List A) × (all ≡ front ++ rest)

-- Nothing, or one byte, or a closed gate and at most as many bytes as the longest record and its
-- gate.
abbrev pub IsTail : ℕ → List ℕ → Type 0
IsTail longest [] = Unit {0}
IsTail longest (gate ∷ []) = Unit {0}
IsTail longest (gate ∷ next ∷ more) = (gate ≡ closed_gate) × (length (next ∷ more) ≤ longest + 1)

module _ (is_record : List ℕ → Type 0) (longest : ℕ) where
  -- The bytes stand for these records: they are the records behind their gates, and then a tail.
  pub record StandsFor (records : List (List ℕ)) (bytes : List ℕ) : Type 0 where
    pub front : List ℕ
    pub tail : List ℕ
    pub kept : IsBehindOpenGates is_record records front
    pub end : IsTail longest tail
    pub split : bytes ≡ front ++ tail

  -- they stand for some records
  abbrev pub IsKeptLog : List ℕ → Type 0
  IsKeptLog bytes = (records : List (List ℕ)) × StandsFor records bytes

  -- some bytes to come make them such
  abbrev pub CanBeKeptLog : List ℕ → Type 0
  CanBeKeptLog bytes = (more : List ℕ) × IsKeptLog (bytes ++ more)

  -- The bytes stand for no records. So many of them can begin a kept log, and with the next one
  -- they can't, whatever comes behind it; or that is all of them, and they end too early.
  pub record IsDamagedBehind (place : ℕ) (bytes : List ℕ) : Type 0 where
    pub within : place ≤ length bytes
    pub good_before : CanBeKeptLog (take place bytes)
    pub not_with_it : place < length bytes → CanBeKeptLog (take (place + 1) bytes) → ⊥
    pub not_as_they_are : IsKeptLog bytes → ⊥

  -- They are damaged at this line: that of the first byte with which no bytes to come make them
  -- good; where they end too early, the line whose line feed is missing. Lines count from 1.
  abbrev pub IsDamaged : ℕ → List ℕ → Type 0
  IsDamaged line bytes = (place : ℕ) × IsDamagedBehind place bytes
      × (line ≡ line_behind (take place bytes))

  -- the bytes stand for the records, with one more or without it
  abbrev pub WithOrWithout : List (List ℕ) → List ℕ → List ℕ → Type 0
  WithOrWithout records one_more bytes =
      StandsFor records bytes ⊎ StandsFor (records ++ one_more ∷ []) bytes

  -- the bytes stand for these records, or for those others
  abbrev pub StandsForEither : List (List ℕ) → List (List ℕ) → List ℕ → Type 0
  StandsForEither records others bytes = StandsFor records bytes ⊎ StandsFor others bytes
