-- How a reader of a kept log stands, and what it takes.
use Rattle.std.specs.Prelude.{◌≡◌, ◌≢◌, ◌⊎◌, ⊤, ℕ, ◌+◌, ◌<◌, ◌≤◌, List, [], ◌∷◌, ◌++◌, length, min, take, Option, None, Some}
use Rattle.nx_kept.specs.Kept.{closed_gate}
use Rattle.nx_copies.specs.copies.Shares.{MarkedCopy}
use Rattle.nx_log.specs.Entries.{IsUnfinishedEntry, IsWholeEntry}
use Rattle.nx_log.specs.KeptLog.{ArePlacedFrom, StandForPlaced, StopKept, longest_entry}
use Rattle.nx_log.specs.LogReader.{most_lines}
use Rattle.nx_log.specs.Logged.{IsLoggedAs}
use Rattle.nx_log.specs.Places.{PlacedCopy}
use Rattle.nx_log.specs.Reading.{line_behind}
use Rattle.nx_log.specs.declared.entries.reader.BadLine.{BadLine}
use Rattle.nx_log.specs.declared.entries.kept_reader.KeptPushed.{KeptPushed}
use Rattle.nx_log.specs.declared.entries.kept_reader.KeptPushed.TheVariants.{Bad, Entry, Part}
use Rattle.nx_log.specs.declared.entries.kept_reader.KeptReader.{KeptReader}
use Rattle.nx_log.specs.declared.entries.kept_reader.KeptStage.{KeptStage}
use Rattle.nx_log.specs.declared.entries.kept_reader.KeptStage.TheVariants.{Closed, Gate, Open}

-- nothing is held of an entry, or its beginning
abbrev pub IsBegun : List ℕ → Type 0
IsBegun held = (held ≡ []) ⊎ IsUnfinishedEntry held

-- what is held behind an open gate is the beginning of an entry
abbrev pub IsSoundAt : KeptStage → List ℕ → Type 0
IsSoundAt Gate held = ⊤
IsSoundAt Open held = IsBegun held
IsSoundAt (Closed count) held = count ≤ longest_entry + 1

abbrev pub IsSound : KeptReader → Type 0
IsSound reader = IsSoundAt reader.stage reader.held.items

-- at this stage, with these bytes held, a reader stands for what came from the last gate on
abbrev pub StageStands : KeptStage → List ℕ → List ℕ → Type 0
StageStands Gate held rest = rest ≡ []
StageStands Open held rest = (gate : ℕ) × (gate ≢ closed_gate) × (rest ≡ gate ∷ held) × IsBegun held
StageStands (Closed count) held rest = (more : List ℕ) × (rest ≡ closed_gate ∷ more)
    × (count ≡ length more) × (count ≤ longest_entry + 1)

-- The reader was given these bytes, behind so many others, and handed out these entries.
pub record IsAtKept (reader : KeptReader) (from : ℕ) (bytes : List ℕ) (entries : List PlacedCopy)
    : Type 0 where
  pub front : List ℕ
  pub rest : List ℕ
  pub split : bytes ≡ front ++ rest
  pub placed : ArePlacedFrom from entries front
  pub stands : StageStands reader.stage reader.held.items rest
  pub gate : reader.gate ≡ from + length front
  pub line : reader.line ≡ min (line_behind bytes) most_lines

-- the bytes are damaged at this line, behind these entries, with one of their own
pub record StopsWithin (from : ℕ) (bytes : List ℕ) (entries : List PlacedCopy) (bad : BadLine)
    : Type 0 where
  pub line : ℕ
  pub stop : StopKept from bytes entries line
  pub within : stop.place < length bytes
  pub counted : bad.line ≡ min line most_lines

-- What a piece brings to a reader that was given these bytes, and handed out these entries: with
-- its first bytes an entry ends, which the reader shows; or none does; or the bytes are damaged in
-- it.
abbrev pub TakesKept : ℕ → List ℕ → List PlacedCopy → List ℕ → KeptReader → KeptPushed → Type 0
TakesKept from bytes entries piece reader (Entry taken places) =
    (one : MarkedCopy) × IsLoggedAs one reader.held.items
    × IsAtKept reader from (bytes ++ take taken piece)
    (entries ++ record { one = one; places = Some places } ∷ [])
TakesKept from bytes entries piece reader (Part taken) =
    IsAtKept reader from (bytes ++ take taken piece) entries
TakesKept from bytes entries piece reader (Bad bad) = StopsWithin from (bytes ++ piece) entries bad

-- it takes some bytes of so many, and then the reader is sound, and shows the entry that ended
abbrev pub TakesSome : ℕ → KeptReader → KeptPushed → Type 0
TakesSome count reader (Entry taken places) =
    (0 < taken) × (taken ≤ count) × IsSound reader × IsWholeEntry reader.held.items
TakesSome count reader (Part taken) = (0 < taken) × (taken ≤ count) × IsSound reader
TakesSome count reader (Bad bad) = ⊤

-- What the end of the bytes brings: they stand for the entries, or they end too early.
abbrev pub EndsKept : ℕ → List ℕ → List PlacedCopy → Option BadLine → Type 0
EndsKept from bytes entries None = StandForPlaced from bytes entries
EndsKept from bytes entries (Some bad) =
    (line : ℕ) × StopKept from bytes entries line × (bad.line ≡ min line most_lines)
