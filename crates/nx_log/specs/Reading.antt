-- A log as it is read: it is cut before each bracket, and each part is an entry or a torn one, and
-- what may stand behind it (this profile).
use Rattle.std.specs.Prelude.{◌≡◌, ◌≢◌, ◌⊎◌, ℕ, ◌+◌, ◌-◌, ◌<◌, ◌≤◌, ◌==◌, if◌then◌else◌, Bool, true, false, List, [], ◌∷◌, ◌++◌, length, take, count_by, Option, Some, None}
use Rattle.std.specs.List.{All}
use Rattle.nx_code.specs.Reading.{newline, space}
use Rattle.nx_copies.specs.copies.Shares.{MarkedCopy}
use Rattle.nx_log.specs.Entries.{IsUnfinishedEntry, IsWholeEntry}
use Rattle.nx_log.specs.Logged.{IsLoggedAs}

-- the bracket with which an entry begins, and which stands nowhere else in one
abbrev pub bracket : ℕ
bracket = 91

abbrev pub IsNoBracket : ℕ → Type 0
IsNoBracket byte = byte ≢ bracket

-- how many bytes the last space of a gap reaches: the longest entry, and its gate in a kept log
abbrev pub most_torn : ℕ
most_torn = 4147

abbrev pub IsBlank : ℕ → Type 0
IsBlank byte = (byte ≡ newline) ⊎ (byte ≡ space)

-- Gap: newlines and spaces in any number, or one byte of any other kind. No bracket stands in what
-- is judged so.
abbrev pub IsGap : List ℕ → Type 0
IsGap gap = All IsBlank gap ⊎ (length gap ≡ 1)

-- how many bytes more the last space reaches behind these bytes of a gap: a space reaches 4,147,
-- and each byte behind it takes one of them
abbrev pub reach_behind : ℕ → List ℕ → ℕ
reach_behind reach [] = reach
reach_behind reach (byte ∷ gap) =
    reach_behind (if byte == space then most_torn else reach - 1) gap

-- With what a part begins: with nothing, before the first bracket; with a whole entry; or with the
-- longest beginning of one.
pub data Head : Type 0 where
  nothing : Head
  whole : MarkedCopy → Head
  begun : Head

-- no byte goes on with the beginning of an entry
abbrev pub IsLongest : List ℕ → List ℕ → Type 0
IsLongest front behind = (byte : ℕ) (more : List ℕ) → behind ≡ byte ∷ more
    → (¬ IsWholeEntry (front ++ byte ∷ [])) × ¬ IsUnfinishedEntry (front ++ byte ∷ [])

-- The bytes in front are such, with these behind them; the flag says whether the part is the first.
abbrev pub IsHead : Bool → Head → List ℕ → List ℕ → Type 0
IsHead true nothing front behind = front ≡ []
IsHead false (whole one) front behind = IsLoggedAs one front
IsHead false begun front behind = IsUnfinishedEntry front × IsLongest front behind
IsHead first head front behind = ⊥

-- the entry of a part, if it has one
abbrev pub entries_of : Head → List MarkedCopy
entries_of (whole one) = one ∷ []
entries_of head = []

-- whether it begins with an entry that was torn
abbrev pub is_begun : Head → Bool
is_begun begun = true
is_begun head = false

-- Where torn bytes begin: behind newlines and spaces, with another byte. Behind the beginning of an
-- entry all bytes are torn with it.
abbrev pub TornBegins : Bool → List ℕ → List ℕ → Type 0
TornBegins true blanks torn = blanks ≡ []
TornBegins false blanks torn = All IsBlank blanks
    × ((first : ℕ) × (more : List ℕ) × (torn ≡ first ∷ more) × ¬ IsBlank first)

-- Torn within reach: the bytes are newlines and spaces, and torn bytes that the last space reaches.
pub record IsInReach (is_torn : Bool) (reach : ℕ) (bytes blanks : List ℕ) (left : ℕ) : Type 0 where
  pub torn : List ℕ
  pub split : bytes ≡ blanks ++ torn
  pub begins : TornBegins is_torn blanks torn
  pub reached : length torn ≤ reach_behind reach blanks
  pub is_left : left ≡ reach_behind reach blanks - length torn

-- Tail: what may stand behind an entry or its beginning. It is a gap; or it is none, and has torn
-- bytes within reach. Then so many bytes more are reached.
abbrev pub IsTail : Bool → ℕ → List ℕ → Option (List ℕ) → ℕ → Type 0
IsTail is_torn reach tail None left = IsGap tail × (left ≡ reach_behind reach tail)
IsTail is_torn reach tail (Some blanks) left =
    (¬ IsGap tail) × IsInReach is_torn reach tail blanks left

-- the line on which a byte behind these stands, from 1
abbrev pub line_behind : List ℕ → ℕ
line_behind bytes = count_by (λ byte. byte == newline) bytes + 1

-- the line of the torn entry of a part, if it has one: that of its first byte
abbrev pub torn_line : Head → List ℕ → List ℕ → Option (List ℕ) → List ℕ
torn_line begun before front torn = line_behind before ∷ []
torn_line head before front None = []
torn_line head before front (Some blanks) = line_behind (before ++ (front ++ blanks)) ∷ []

-- a part: before the first bracket there is none, and each other part begins with one
abbrev pub IsPart : Bool → List ℕ → Type 0
IsPart true part = All IsNoBracket part
IsPart false part = (more : List ℕ) × (part ≡ bracket ∷ more) × All IsNoBracket more

-- What was read of a log: its bytes; its entries; the lines of the torn entries of all parts but
-- the last; that of the last part, if it has one; how many bytes more the last space reaches.
pub record LogRead : Type 0 where
  pub bytes : List ℕ
  pub entries : List MarkedCopy
  pub told : List ℕ
  pub last : List ℕ
  pub reach : ℕ

-- before any byte
abbrev pub nothing_read : LogRead
nothing_read = record { bytes = []; entries = []; told = []; last = []; reach = 0 }

-- one part more is read
pub record IsNext (first : Bool) (before : LogRead) (part : List ℕ) (after : LogRead) : Type 0 where
  pub is_part : IsPart first part
  pub head : Head
  pub front : List ℕ
  pub tail : List ℕ
  pub torn : Option (List ℕ)
  pub split : part ≡ front ++ tail
  pub is_head : IsHead first head front tail
  pub is_tail : IsTail (is_begun head) (before.reach - length front) tail torn after.reach
  pub bytes : after.bytes ≡ before.bytes ++ part
  pub entries : after.entries ≡ before.entries ++ entries_of head
  pub told : after.told ≡ before.told ++ before.last
  pub last : after.last ≡ torn_line head before.bytes front torn

abbrev pub is_first : List (List ℕ) → Bool
is_first [] = true
is_first (part ∷ earlier) = false

-- Read: these parts, the last one first, are read so.
abbrev pub AreRead : List (List ℕ) → LogRead → Type 0
AreRead [] read = read ≡ nothing_read
AreRead (part ∷ earlier) read = (before : LogRead) × AreRead earlier before
    × IsNext (is_first earlier) before part read

-- the bytes are those of a log, and are read so
pub record IsLogRead (bytes : List ℕ) (read : LogRead) : Type 0 where
  pub part : List ℕ
  pub earlier : List (List ℕ)
  pub are : AreRead (part ∷ earlier) read
  pub all : read.bytes ≡ bytes

-- the bytes are of a log, also where more may come
abbrev pub IsOfLog : List ℕ → Type 0
IsOfLog bytes = (read : LogRead) × IsLogRead bytes read

-- These are the whole entries of the bytes, and the lines of their torn entries behind which a
-- bracket stands. More bytes may come.
pub record HoldEntries (bytes : List ℕ) (entries : List MarkedCopy) (torn : List ℕ) : Type 0 where
  pub read : LogRead
  pub is : IsLogRead bytes read
  pub are_entries : entries ≡ read.entries
  pub are_torn : torn ≡ read.told

-- The same at their end, where the last part is over too.
pub record HoldEntriesToEnd (bytes : List ℕ) (entries : List MarkedCopy) (torn : List ℕ)
    : Type 0 where
  pub read : LogRead
  pub is : IsLogRead bytes read
  pub are_entries : entries ≡ read.entries
  pub are_torn : torn ≡ read.told ++ read.last

-- Behind these they stop being a log at this line: that of the first byte with which they are none.
pub record StopAtLine (bytes : List ℕ) (entries : List MarkedCopy) (torn : List ℕ) (line : ℕ)
    : Type 0 where
  pub place : ℕ
  pub within : place < length bytes
  pub good_before : HoldEntries (take place bytes) entries torn
  pub bad_with_it : ¬ IsOfLog (take (place + 1) bytes)
  pub is_line : line ≡ line_behind (take place bytes)
