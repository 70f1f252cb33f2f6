-- How a run over the lines of an air file ends, which a listener takes (this profile).
use Rattle.std.specs.Prelude.{◌≡◌, ◌⊎◌, ℕ, List, [], ◌∷◌, ◌++◌, Option, Result, Err}
use Rattle.std.specs.Io.KnownBytes.{Appends}
use Rattle.nx_fec.specs.Transfers.{AnswersToEnd, Contents, Devices, Extent, HasWritten, Transfers}
use Rattle.nx_fec.specs.Transfers.{WroteSome, contents_of, line_by_line}
use Rattle.nx_fec.specs.air_files.AirFile.{Line}
use Rattle.nx_fec.specs.air_files.LineRuns.{HasGiven, Waiting}
use Rattle.nx_fec.specs.private.LineRuns.{HasHeardAll, HasTaken}
use Rattle.nx_fec.specs.declared.air_files.line_runs.LinesRead.{LinesRead}
use Rattle.nx_copies.specs.copies.Log.{Printing}
use Rattle.nx_copies.specs.copies.Shares.{Starts}
use Rattle.nx_receiver.specs.ChannelReceiver.{ReceiverKind}
use Rattle.nx_receiver.specs.Listener.{ListeningOver, starts_by}
use Rattle.nx_receiver.specs.air_file_runs.Listen.{AnswersListeningBy, HasLoggedBy, HasLoggedSome}
use Rattle.nx_receiver.specs.air_file_runs.Listen.{IsLogOfLinesBy, refusal_fault}
use Rattle.nx_receiver.specs.private.Listener.{RefusesLine, StandsFromBy}
use Rattle.nx_receiver.specs.declared.air_file_runs.listen_fault.LineRefusal.{LineRefusal}
use Rattle.nx_receiver.specs.declared.air_file_runs.listen_fault.ListenFault.{ListenFault}
use Rattle.nx_receiver.specs.declared.air_file_runs.listen_fault.ListenFault.TheVariants.{Memory, Read, Write}

-- the fault stands for what stopped the run, of which this holds
pub record StandsFor {F : Type 0} (as_fault : F → ListenFault) (explains : F → Type 0)
    (fault : ListenFault) : Type 0 where
  pub why : F
  pub is : fault ≡ as_fault why
  pub explained : explains why

-- A line of this number is refused so, and all that waits in a batch is to be written before that
-- is told. It was, behind what the writer held; or a write of it failed.
abbrev pub TellsRefusal : ℕ → LineRefusal → Option (List ℕ) → Option (List ℕ) → Waiting
    → ListenFault → Type 0
TellsRefusal number why before after batch fault =
    ((fault ≡ refusal_fault number why) × ((old : Option (List ℕ)) (given : List ℕ)
    → HasGiven old before batch given → Appends old after given))
    ⊎ StandsFor Write (λ written. (old : Option (List ℕ)) (given : List ℕ)
    → HasGiven old before batch given → WroteSome old after given written) fault

-- Why the line of this number, which follows these, ends a run. It is refused, and the log of the
-- lines before it was written. Or a write of a log failed: of the lines before it, or of these and
-- the line.
abbrev pub StopsAtLineBy : Printing → Starts → Contents → List Line → Line → ℕ → ListenFault
    → Type 0
StopsAtLineBy printing starts contents lines line number fault =
    StandsFor (refusal_fault number)
    (λ why. RefusesLine starts lines line why × HasLoggedBy printing starts contents lines) fault
    ⊎ StandsFor Write
    (λ written. HasLoggedSome (IsLogOfLinesBy printing starts lines) contents written
    ⊎ HasLoggedSome (IsLogOfLinesBy printing starts (lines ++ line ∷ [])) contents written) fault

-- What the fault of a run over lines says of bytes of this extent: what that of a run that listens
-- does. It is no want of memory.
abbrev pub ExplainsLogBy : Printing → Starts → Contents → Extent → List ℕ → ListenFault → Type 0
ExplainsLogBy printing starts contents extent bytes (Memory error) = ⊥
ExplainsLogBy printing starts contents extent bytes fault =
    AnswersListeningBy printing starts extent contents (Err fault) bytes

-- the listener, which stood so at first, took all lines of a file, and their log was written
abbrev pub HasTakenAllBy : {R : Type 0} → ReceiverKind R → ListeningOver R → ListeningOver R
    → Contents → LinesRead → List ℕ → Type 0
HasTakenAllBy kind first now contents read bytes =
    HasHeardAll (λ lines. HasTaken (StandsFromBy kind) first now lines
    (λ log. HasWritten contents.before contents.after log read.written)) bytes read.lines

-- A run over the lines of an air file, which this listener takes: it answers so to the bytes that
-- it read, and to the whole file, however it came; and it writes what the lines print before each
-- further read.
abbrev pub TakesLinesBy : {C R W : Type 0} → ReceiverKind C → ListeningOver C → ListeningOver C
    → Devices R W → Result LinesRead ListenFault → Type 0
TakesLinesBy kind first now d outcome =
    Transfers (line_by_line Read (λ written. Write written)) d outcome
    (AnswersToEnd (λ read bytes. HasTakenAllBy kind first now (contents_of d) read bytes)
    (λ extent bytes fault.
    ExplainsLogBy kind.printing (starts_by kind first) (contents_of d) extent bytes fault)
    outcome)
