-- How a run over a kept log stands, and how it ends.
use Rattle.std.specs.Prelude.{◌≡◌, ℕ, ◌-◌, ◌^◌, List, length, min, Option, Result, Ok, Err}
use Rattle.nx_fec.specs.Transfers.{Contents}
use Rattle.nx_log.specs.KeptLog.{HoldKept, StandForPlaced, StopKept}
use Rattle.nx_log.specs.KeptRun.{BeginKept}
use Rattle.nx_log.specs.LogReader.{most_lines}
use Rattle.nx_log.specs.LogRun.{WrotePlaced, WrotePlacedPart, WrotePlacedToEnd}
use Rattle.nx_log.specs.Places.{PlacedCopy, chosen_placed}
use Rattle.nx_log.specs.private.KeptReading.{IsAtKept, StopsWithin}
use Rattle.nx_log.specs.private.LogRunning.{HasGivenOutput, WroteNothing}
use Rattle.nx_log.specs.declared.kept_runs.KeptRun.{KeptRun}
use Rattle.nx_log.specs.declared.log_fault.LogFault.{LogFault}
use Rattle.nx_log.specs.declared.log_fault.LogFault.TheVariants.{Read, Write, BadLog, Memory}
use Rattle.nx_log.specs.declared.queries.query.Query.{Query}
use Rattle.nx_log.specs.declared.writing.form.Form.{Form}

-- the most bytes that stand anywhere
abbrev pub most_places : ℕ
most_places = 2 ^ 64 - 1

-- The run read these bytes, behind so many others. The output of their whole entries was given.
pub record IsKeptRunning (query : Query) (form : Form) (from : ℕ) (old : Option (List ℕ))
    (run : KeptRun) (new : Option (List ℕ)) (bytes : List ℕ) : Type 0 where
  pub entries : List PlacedCopy
  pub at : IsAtKept run.log from bytes entries
  pub given : HasGivenOutput query form old new run.output entries

-- the run ends so with this fault in the bytes
abbrev pub EndsKeptRun : Query → Form → ℕ → Contents → List ℕ → LogFault → Type 0
EndsKeptRun query form from contents bytes Read =
    (entries : List PlacedCopy) × HoldKept from bytes entries
    × WrotePlaced query form contents entries
EndsKeptRun query form from contents bytes (Write written) =
    (entries : List PlacedCopy) × BeginKept from bytes entries
    × WrotePlacedPart query form contents entries written
EndsKeptRun query form from contents bytes (BadLog line) =
    (entries : List PlacedCopy) × StopsWithin from bytes entries (record { line = line })
    × WrotePlacedToEnd query form contents entries
EndsKeptRun query form from contents bytes (Memory error) =
    (entries : List PlacedCopy) × BeginKept from bytes entries × WroteNothing query contents

-- it answers so at the end
abbrev pub EndsKeptAll : Query → Form → ℕ → Contents → List ℕ → Result ℕ LogFault → Type 0
EndsKeptAll query form from contents bytes (Ok count) =
    (entries : List PlacedCopy) × StandForPlaced from bytes entries
    × WrotePlacedToEnd query form contents entries
    × (count ≡ min (length (chosen_placed query entries)) (2 ^ 64 - 1))
EndsKeptAll query form from contents bytes (Err (BadLog line)) =
    (entries : List PlacedCopy) × (exact : ℕ) × StopKept from bytes entries exact
    × (line ≡ min exact most_lines) × WrotePlacedToEnd query form contents entries
EndsKeptAll query form from contents bytes (Err (Write written)) =
    EndsKeptRun query form from contents bytes (Write written)
EndsKeptAll query form from contents bytes (Err fault) = ⊥
