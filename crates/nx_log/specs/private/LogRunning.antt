-- How a run over a log stands, and how it ends.
use Rattle.std.specs.Prelude.{◌≡◌, ◌≢◌, ⊤, ℕ, ◌-◌, ◌^◌, Bool, true, false, List, [], ◌++◌, length, map, min, Option, None, Some}
use Rattle.std.specs.Prelude.{Result, Ok, Err}
use Rattle.std.specs.List.{AllZip, concat}
use Rattle.std.specs.Io.KnownBytes.{Appends}
use Rattle.nx_fec.specs.Transfers.{Contents}
use Rattle.nx_fec.specs.air_files.LineRuns.{HasGiven}
use Rattle.nx_copies.specs.copies.Shares.{MarkedCopy}
use Rattle.nx_log.specs.LogReading.{LogReading}
use Rattle.nx_log.specs.LogReader.{IsAt, StopAt}
use Rattle.nx_log.specs.LogRun.{BeginSalvage, IsInForm, WroteOutput, WrotePart, WrotePlaced, WrotePlacedPart, WroteToEnd}
use Rattle.nx_log.specs.Places.{PlacedCopy, chosen_placed, unplaced}
use Rattle.nx_log.specs.Notices.{HaveToldAll, HaveToldTorn, Notice, Notices}
use Rattle.nx_log.specs.Query.{chosen}
use Rattle.nx_log.specs.Reading.{HoldEntriesToEnd}
use Rattle.nx_log.specs.Salvage.{AreCut, BeginsBehind, Salvage, SalvageToEnd, Stretch, bytes_in, entries_in, first_line, lines_in, told_of}
use Rattle.nx_log.specs.private.Held.{AreHeld}
use Rattle.nx_log.specs.declared.damage.Damaged.{Damaged}
use Rattle.nx_log.specs.declared.damage.Damaged.TheVariants.{PassedOver, Refused}
use Rattle.nx_log.specs.declared.log_runs.LogRun.{LogRun}
use Rattle.nx_log.specs.declared.writing.form.Form.{Form}
use Rattle.nx_log.specs.declared.log_fault.LogFault.{LogFault}
use Rattle.nx_log.specs.declared.log_fault.LogFault.TheVariants.{Read, Write, BadLog, Memory}
use Rattle.nx_log.specs.declared.writing.output.Output.{Output}
use Rattle.nx_log.specs.declared.queries.query.Query.{Query}

-- the reader was given some bytes
abbrev pub IsReading : LogReading → Type 0
IsReading log = (bytes : List ℕ) × (entries : List MarkedCopy) × (torn : List ℕ)
    × IsAt log bytes entries torn

-- where the last entries alone are asked for, all are held, and else none is
abbrev pub IsDivided : Bool → List PlacedCopy → List PlacedCopy → Type 0
IsDivided true given held = given ≡ []
IsDivided false given held = held ≡ []

-- Of what a query chooses of these entries some were given: the first of their texts is written,
-- and the rest waits. They are counted. The others are held.
pub record HasGivenOutput (query : Query) (form : Form) (old new : Option (List ℕ))
    (output : Output) (entries : List PlacedCopy) : Type 0 where
  pub passed : List PlacedCopy
  pub held : List PlacedCopy
  pub split : chosen_placed query entries ≡ passed ++ held
  pub divided : IsDivided query.last passed held
  pub texts : List (List ℕ)
  pub each : AllZip (IsInForm form) passed texts
  pub given : HasGiven old new output.batch (concat texts)
  pub counted : output.passed ≡ min (length passed) (2 ^ 64 - 1)
  pub are_held : AreHeld form held output.held.entries.items

-- nothing was written, where the last entries alone are asked for
pub record WroteNothing (query : Query) (contents : Contents) : Type 0 where
  pub last : query.last ≡ true
  pub nothing : Appends contents.before contents.after []

-- what is answered behind a failed read: all that was held was written, or a write of it failed
abbrev pub EndsUnread : Query → Form → Contents → List PlacedCopy → LogFault → Type 0
EndsUnread query form contents entries Read = WrotePlaced query form contents entries
EndsUnread query form contents entries (Write written) =
    WrotePlacedPart query form contents entries written
EndsUnread query form contents entries fault = ⊥

-- an entry could not be given, which is the last of these
abbrev pub FailsGiving : Query → Form → Contents → List PlacedCopy → LogFault → Type 0
FailsGiving query form contents entries (Write written) =
    WrotePlacedPart query form contents entries written
FailsGiving query form contents entries (Memory error) = WroteNothing query contents
FailsGiving query form contents entries fault = ⊥

-- Where what is not of a log is refused, none of it stands before.
abbrev pub StandsIn : Damaged → List Stretch → Type 0
StandsIn Refused stretches = stretches ≡ []
StandsIn PassedOver stretches = ⊤

-- Behind stretches bytes are passed over, or the reader was given a rest.
abbrev pub IsPassing : Bool → List Stretch → List ℕ → List ℕ → Type 0
IsPassing true stretches rest torn = (rest ≡ []) × (torn ≡ []) × (stretches ≢ [])
IsPassing false stretches rest torn = BeginsBehind stretches rest

-- The run read these bytes: some stretches, and a rest that is of a log so far. The output of their
-- whole entries was given, and what is to be told of them was told.
pub record IsRunning (query : Query) (form : Form) (damaged : Damaged) (old : Option (List ℕ))
    (run : LogRun) (new : Option (List ℕ)) (n : Notices) (bytes : List ℕ) : Type 0 where
  pub stretches : List Stretch
  pub rest : List ℕ
  pub last : List MarkedCopy
  pub torn : List ℕ
  pub cut : AreCut bytes stretches rest
  pub at : IsAt run.log rest last torn
  pub given : HasGivenOutput query form old new run.output
      (map unplaced (entries_in stretches ++ last))
  pub told : HaveToldAll n (told_of stretches torn)
  pub ended : run.ended ≡ lines_in (bytes_in stretches)
  pub first : first_line stretches ≡ run.first_bad
  pub passing : IsPassing run.is_passing stretches rest torn
  pub mode : run.damaged ≡ damaged
  pub stands : StandsIn damaged stretches

-- what was salvaged so far, its output and what was told
pub record HasSalvaged (query : Query) (form : Form) (damaged : Damaged) (contents : Contents)
    (n : Notices) (bytes : List ℕ) : Type 0 where
  pub stretches : List Stretch
  pub entries : List MarkedCopy
  pub told : List Notice
  pub salvage : Salvage stretches bytes entries told
  pub wrote : WroteOutput query form contents entries
  pub was_told : HaveToldAll n told
  pub stands : StandsIn damaged stretches

-- the same of a front of the bytes, whose output was written as far as this
pub record HasWrittenPart (query : Query) (form : Form) (damaged : Damaged) (contents : Contents)
    (n : Notices) (bytes : List ℕ) (written : ℕ) : Type 0 where
  pub stretches : List Stretch
  pub entries : List MarkedCopy
  pub told : List Notice
  pub salvage : BeginSalvage stretches bytes entries told
  pub wrote : WrotePart query form contents entries written
  pub was_told : HaveToldAll n told
  pub stands : StandsIn damaged stretches

-- memory ran out behind a front of the bytes, and nothing was written
pub record HasRunOut (query : Query) (damaged : Damaged) (contents : Contents) (n : Notices)
    (bytes : List ℕ) : Type 0 where
  pub stretches : List Stretch
  pub entries : List MarkedCopy
  pub told : List Notice
  pub salvage : BeginSalvage stretches bytes entries told
  pub wrote : WroteNothing query contents
  pub was_told : HaveToldAll n told
  pub stands : StandsIn damaged stretches

-- the bytes stop being a log at this line, where that is refused
pub record StopsRun (query : Query) (form : Form) (damaged : Damaged) (contents : Contents)
    (n : Notices) (bytes : List ℕ) (line : ℕ) : Type 0 where
  pub entries : List MarkedCopy
  pub torn : List ℕ
  pub stop : StopAt bytes entries torn (record { line = line })
  pub wrote : WroteToEnd query form contents entries
  pub told : HaveToldTorn n torn
  pub refused : damaged ≡ Refused

-- the run ends so with this fault in the bytes
abbrev pub EndsRun : Query → Form → Damaged → Contents → Notices → List ℕ → LogFault → Type 0
EndsRun query form damaged contents n bytes Read = HasSalvaged query form damaged contents n bytes
EndsRun query form damaged contents n bytes (Write written) =
    HasWrittenPart query form damaged contents n bytes written
EndsRun query form damaged contents n bytes (BadLog line) =
    StopsRun query form damaged contents n bytes line
EndsRun query form damaged contents n bytes (Memory error) =
    HasRunOut query damaged contents n bytes

-- the bytes are all, and what is to be told of them was told
pub record EndsTold (n : Notices) (stretches : List Stretch) (rest : List ℕ)
    (last : List MarkedCopy) : Type 0 where
  pub torn : List ℕ
  pub hold : HoldEntriesToEnd rest last torn
  pub told : HaveToldAll n (told_of stretches torn)

-- all bytes were salvaged, the output of their entries was written to its end, and this is the
-- first line that isn't of a log
pub record HasRunOver (query : Query) (form : Form) (damaged : Damaged) (contents : Contents)
    (n : Notices) (bytes : List ℕ) (entries : List MarkedCopy) (first_bad : Option ℕ)
    : Type 0 where
  pub stretches : List Stretch
  pub told : List Notice
  pub salvage : SalvageToEnd stretches bytes entries told
  pub wrote : WroteToEnd query form contents entries
  pub was_told : HaveToldAll n told
  pub first : first_line stretches ≡ first_bad
  pub stands : StandsIn damaged stretches

-- it answers so at the end
abbrev pub EndsAll : Query → Form → Damaged → Contents → Notices → List ℕ → Result ℕ LogFault
    → Type 0
EndsAll query form damaged contents n bytes (Ok count) =
    (entries : List MarkedCopy) × HasRunOver query form damaged contents n bytes entries None
    × (count ≡ min (length (chosen query entries)) (2 ^ 64 - 1))
EndsAll query form damaged contents n bytes (Err (BadLog line)) =
    (entries : List MarkedCopy)
    × HasRunOver query form damaged contents n bytes entries (Some line)
EndsAll query form damaged contents n bytes (Err (Write written)) =
    HasWrittenPart query form damaged contents n bytes written
EndsAll query form damaged contents n bytes (Err fault) = ⊥
