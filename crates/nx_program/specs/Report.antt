-- What the program leaves on standard error (this profile).
use Rattle.std.specs.Prelude.{◌≡◌, ◌≢◌, ◌<◌, ◌⊎◌, ◌∷◌, ◌++◌, ℕ, List, [], Option, None, Result, Ok, Err}
use Rattle.std.specs.Prelude.{alloc_error, codes, string_bytes}
use Rattle.std.specs.Io.KnownBytes.{Appends}
use Rattle.std.specs.IoError.{error_kind}
use Rattle.std.specs.declared.io.Error.{Error}
use Rattle.std.specs.declared.io.ErrorKind.TheVariants.{OutOfMemory}
use Rattle.clap.specs.Words.{Text}
use Rattle.nx_code.specs.Reading.{newline}
use Rattle.nx_fec.specs.Transfers.{CountedDevice, WroteSome, Devices}
use Rattle.nx_fec.specs.declared.fault.RunFault.TheVariants as run
use Rattle.nx_program.specs.declared.fault.CallFault.TheVariants as call
use Rattle.nx_program.specs.declared.fault.Fault.{Fault}
use Rattle.nx_program.specs.declared.fault.Fault.TheVariants as fault
use Rattle.nx_program.specs.FaultText.{call_fault_line}
use Rattle.nx_program.specs.Program.{EndsRun, IsUntouched}
use Rattle.nx_program.specs.Status.{fault_status, status_of}
use Rattle.nx_program.specs.WatchCommand.{Beside, watch_fault_line, with_faults}

-- a line that reports a fault: `navtex: `, what the fault is shown as, and a newline
pub record IsFaultLine (line : List ℕ) : Type 0 where
  pub shown : List ℕ
  pub whole : line ≡ codes "navtex: " ++ shown ++ newline ∷ []

-- the text that reports a fault: clap's own answer to the arguments, the report of a value, or
-- the line of the fault
abbrev pub IsFaultText : Fault → List ℕ → Type 0
IsFaultText (fault.Arguments answer) text = text ≡ string_bytes answer
IsFaultText fault.NoText text =
    text ≡ codes "navtex: a word of the command line is not UTF-8" ++ newline ∷ []
IsFaultText fault.Station text =
    text ≡ codes "navtex: station must be one letter A to Z" ++ newline ∷ []
IsFaultText fault.Kind text = text ≡ codes "navtex: kind must be dx, rx or all" ++ newline ∷ []
IsFaultText (fault.Value report) text = text ≡ string_bytes report
IsFaultText (fault.Watch name why) text = text ≡ watch_fault_line name why
IsFaultText (fault.Call why) text = text ≡ call_fault_line why

-- one text, of which this holds, was written whole, or up to a write that failed
pub record WritesOne {E : Type 0} (IsText : List ℕ → Type 0) (contents : E → Option (List ℕ))
    (old new : CountedDevice E) : Type 0 where
  pub text : List ℕ
  pub is_text : IsText text
  pub written :
      (Appends (contents old.inner) (contents new.inner) text × (new.failures ≡ 0))
      ⊎ ((count : ℕ) × WroteSome (contents old.inner) (contents new.inner) text count
      × (new.failures ≡ 1))

-- A text of which this holds was written as said; but where a write had failed before, nothing was.
pub record WritesLast {E : Type 0} (IsText : List ℕ → Type 0) (contents : E → Option (List ℕ))
    (old new : CountedDevice E) : Type 0 where
  pub written : old.failures ≡ 0 → WritesOne IsText contents old new
  pub stopped : 0 < old.failures → new ≡ old

-- a success leaves nothing there, and a fault its text
abbrev pub Reports : {E : Type 0} → (E → Option (List ℕ)) → CountedDevice E → CountedDevice E
    → Result (Unit {0}) Fault → Type 0
Reports contents old new (Ok done) = new ≡ old
Reports contents old new (Err why) = WritesLast (IsFaultText why) contents old new

-- The program ends so on its devices and on standard error, with this status: standard error stood
-- so behind the call, and then the fault was reported there.
pub record Answers {R W F D E : Type 0} (arguments : List Text) (d : Devices R W)
    (b : Beside F D W E)
    (status : ℕ) : Type 0 where
  pub outcome : Result (Unit {0}) Fault
  pub behind_call : CountedDevice E
  pub ends : EndsRun arguments d (with_faults b behind_call) outcome
  pub reported : Reports b.contents behind_call b.faults_after outcome
  pub status_is : status ≡ status_of outcome

-- the fault of arguments that can't be had for this reason: want of memory, or one of them is no
-- text
abbrev pub IsWantOfArguments : Error → Fault → Type 0
IsWantOfArguments reason why =
    (error_kind reason ≡ OutOfMemory → why ≡ fault.Call (call.Run (run.Memory alloc_error)))
    × (error_kind reason ≢ OutOfMemory → why ≡ fault.NoText)

-- the arguments can't be had for this reason: no device was called, no file opened, and the fault
-- was reported
pub record LacksArguments {R W F D E : Type 0} (reason : Error) (d : Devices R W)
    (b : Beside F D W E)
    (status : ℕ) : Type 0 where
  pub why : Fault
  pub want : IsWantOfArguments reason why
  pub untouched : IsUntouched d
  pub unopened : b.disk_after ≡ None
  pub reported : Reports b.contents b.faults b.faults_after (Err why)
  pub status_is : status ≡ fault_status why
