-- A reader of a log that is given in pieces (this profile).
use Rattle.std.specs.Prelude.{◌≡◌, ℕ, ◌≤◌, ◌-◌, ◌^◌, List, [], ◌∷◌, ◌++◌, length, min, take, Option, Some, None}
use Rattle.nx_copies.specs.copies.Shares.{MarkedCopy}
use Rattle.nx_log.specs.LogReading.{LogReading}
use Rattle.nx_log.specs.Logged.{IsLoggedAs}
use Rattle.nx_log.specs.Reading.{AreRead, HoldEntriesToEnd, LogRead, StopAtLine, entries_of, is_first, line_behind}
use Rattle.nx_log.specs.declared.entries.reader.BadLine.{BadLine}
use Rattle.nx_log.specs.declared.entries.reader.TornLine.{TornLine}
use Rattle.nx_log.specs.declared.entries.reader.Pushed.{Pushed}
use Rattle.nx_log.specs.declared.entries.reader.Pushed.TheVariants.{All, Bad, Entry, Torn}
use Rattle.nx_log.specs.private.Standing.{StandsFor}

-- lines are counted up to this one
abbrev pub most_lines : ℕ
most_lines = 2 ^ 64 - 1

-- The reader was given these bytes, and handed out these entries, all that are whole in the bytes,
-- and the torn ones on these lines, all behind which a bracket stands.
pub record IsAt (reader : LogReading) (bytes : List ℕ) (entries : List MarkedCopy)
    (torn : List ℕ) : Type 0 where
  pub earlier : List (List ℕ)
  pub before : LogRead
  pub are : AreRead earlier before
  pub last : StandsFor reader.stage reader.held (is_first earlier) before bytes
  pub are_entries : entries ≡ before.entries ++ entries_of last.head
  pub are_torn : torn ≡ before.told ++ before.last
  pub line : reader.line ≡ min (line_behind bytes) most_lines

-- the reader shows this entry
abbrev pub Shows : LogReading → MarkedCopy → Type 0
Shows reader one = IsLoggedAs one reader.held

-- behind these entries and torn ones the bytes stop being a log at this line
pub record StopAt (bytes : List ℕ) (entries : List MarkedCopy) (torn : List ℕ) (bad : BadLine)
    : Type 0 where
  pub line : ℕ
  pub stop : StopAtLine bytes entries torn line
  pub counted : bad.line ≡ min line most_lines

-- What a piece brings to a reader that was given these bytes, and handed out these entries and torn
-- ones. An entry ends with the first `taken` bytes of the piece, and the reader shows it and is
-- behind it. Or a torn one ends before the last of them, on this line. Or neither ends in the
-- piece; or the bytes stop being a log in it.
abbrev pub Takes : List ℕ → List MarkedCopy → List ℕ → List ℕ → LogReading → Pushed → Type 0
Takes bytes entries torn piece reader (Entry taken) = (taken ≤ length piece)
    × ((one : MarkedCopy) × Shows reader one
    × IsAt reader (bytes ++ take taken piece) (entries ++ one ∷ []) torn)
Takes bytes entries torn piece reader (Torn taken at) = (taken ≤ length piece)
    × ((line : ℕ) × (at.line ≡ min line most_lines)
    × IsAt reader (bytes ++ take taken piece) entries (torn ++ line ∷ []))
Takes bytes entries torn piece reader All = IsAt reader (bytes ++ piece) entries torn
Takes bytes entries torn piece reader (Bad line) = StopAt (bytes ++ piece) entries torn line

-- What the end of the bytes brings: nothing, or a torn entry, on this line.
abbrev pub EndsSo : List ℕ → List MarkedCopy → List ℕ → Option TornLine → Type 0
EndsSo bytes entries torn None = HoldEntriesToEnd bytes entries torn
EndsSo bytes entries torn (Some at) = (line : ℕ) × (at.line ≡ min line most_lines)
    × HoldEntriesToEnd bytes entries (torn ++ line ∷ [])
