-- A damaged log, of which all is read that can be: what is not of a log is passed over up to the
-- next bracket, and there it begins anew (this profile).
use Rattle.std.specs.Prelude.{◌≡◌, ◌⊎◌, ℕ, ◌+◌, ◌==◌, ⊤, List, [], ◌∷◌, ◌++◌, count_by, drop, map, Option, None, Some}
use Rattle.std.specs.List.{All}
use Rattle.nx_code.specs.Reading.{newline}
use Rattle.nx_copies.specs.copies.Shares.{MarkedCopy}
use Rattle.nx_log.specs.Notices.{Notice, damaged_at, torn_at}
use Rattle.nx_log.specs.Reading.{HoldEntries, HoldEntriesToEnd, IsNoBracket, StopAtLine, bracket}

-- A stretch of a damaged log: its bytes, its entries, the lines of its torn ones, and the line at
-- which its bytes stop being a log. The lines are counted from its own first one.
pub record Stretch : Type 0 where
  pub bytes : List ℕ
  pub entries : List MarkedCopy
  pub torn : List ℕ
  pub line : ℕ

-- They do so there, and from there on they are passed over: no bracket stands among those.
pub record IsPassedOver (stretch : Stretch) : Type 0 where
  pub stop : StopAtLine stretch.bytes stretch.entries stretch.torn stretch.line
  pub no_bracket : All IsNoBracket (drop stop.place stretch.bytes)

-- the bytes begin with a bracket
abbrev pub BeginsAnew : List ℕ → Type 0
BeginsAnew bytes = (more : List ℕ) × (bytes ≡ bracket ∷ more)

-- what comes behind stretches, of which the last one stands first, begins with a bracket
abbrev pub BeginsBehind : List Stretch → List ℕ → Type 0
BeginsBehind [] bytes = ⊤
BeginsBehind (stretch ∷ earlier) bytes = BeginsAnew bytes

-- Stretches, the last one first: each is passed over up to the bracket with which the next begins.
abbrev pub AreStretches : List Stretch → Type 0
AreStretches [] = ⊤
AreStretches (stretch ∷ earlier) =
    AreStretches earlier × IsPassedOver stretch × BeginsBehind earlier stretch.bytes

abbrev pub bytes_in : List Stretch → List ℕ
bytes_in [] = []
bytes_in (stretch ∷ earlier) = bytes_in earlier ++ stretch.bytes

abbrev pub entries_in : List Stretch → List MarkedCopy
entries_in [] = []
entries_in (stretch ∷ earlier) = entries_in earlier ++ stretch.entries

-- how many lines end in the bytes
abbrev pub lines_in : List ℕ → ℕ
lines_in bytes = count_by (λ byte. byte == newline) bytes

-- what is told of the torn entries on these lines, before which so many others ended
abbrev pub told_torn : ℕ → List ℕ → List Notice
told_torn ended torn = map (λ line. torn_at (ended + line)) torn

-- what is told of stretches: of each its torn entries, and then the line at which it stops being a
-- log
abbrev pub told_in : List Stretch → List Notice
told_in [] = []
told_in (stretch ∷ earlier) =
    let ended = lines_in (bytes_in earlier) in
    told_in earlier
    ++ (told_torn ended stretch.torn ++ damaged_at (ended + stretch.line) ∷ [])

-- what is told of stretches, and of the torn entries on these lines behind them
abbrev pub told_of : List Stretch → List ℕ → List Notice
told_of stretches torn = told_in stretches ++ told_torn (lines_in (bytes_in stretches)) torn

-- the first of two lines, where there is one before
abbrev pub first_of : Option ℕ → ℕ → Option ℕ
first_of None line = Some line
first_of (Some first) line = Some first

-- the first line that isn't of a log, if there is one
abbrev pub first_line : List Stretch → Option ℕ
first_line [] = None
first_line (stretch ∷ earlier) =
    first_of (first_line earlier) (lines_in (bytes_in earlier) + stretch.line)

-- The bytes are these stretches, and then this rest, which begins with a bracket too.
pub record AreCut (bytes : List ℕ) (stretches : List Stretch) (rest : List ℕ) : Type 0 where
  pub split : bytes ≡ bytes_in stretches ++ rest
  pub are : AreStretches stretches
  pub behind : (rest ≡ []) ⊎ BeginsBehind stretches rest

-- Salvaged so far: in these stretches and behind them the bytes have these whole entries, and this
-- is told of them. More bytes may come.
pub record Salvage (stretches : List Stretch) (bytes : List ℕ) (entries : List MarkedCopy)
    (told : List Notice) : Type 0 where
  pub rest : List ℕ
  pub last : List MarkedCopy
  pub torn : List ℕ
  pub cut : AreCut bytes stretches rest
  pub hold : HoldEntries rest last torn
  pub are_entries : entries ≡ entries_in stretches ++ last
  pub is_told : told ≡ told_of stretches torn

-- Salvaged to their end: the same, and the torn entry with which they end is told too.
pub record SalvageToEnd (stretches : List Stretch) (bytes : List ℕ) (entries : List MarkedCopy)
    (told : List Notice) : Type 0 where
  pub rest : List ℕ
  pub last : List MarkedCopy
  pub torn : List ℕ
  pub cut : AreCut bytes stretches rest
  pub hold : HoldEntriesToEnd rest last torn
  pub are_entries : entries ≡ entries_in stretches ++ last
  pub is_told : told ≡ told_of stretches torn
