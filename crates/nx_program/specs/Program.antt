-- How a run of the program ends: what it leaves on its devices, by the contracts of the calls, and
-- the status with which it exits (this profile).
use Rattle.std.specs.Prelude.{◌≡◌, ◌⊎◌, ◌∷◌, ◌++◌, ⊤, ℕ, List, [], Option, Result, Ok, Err}
use Rattle.std.specs.Prelude.{alloc_error, codes, string_bytes}
use Rattle.std.specs.Io.KnownBytes.{Appends}
use Rattle.std.specs.declared.alloc.AllocError.{AllocError}
use Rattle.clap.specs.Words.{Text}
use Rattle.nx_code.specs.Reading.{newline, space}
use Rattle.nx_envelope.specs.Moment.{IsShownAs}
use Rattle.std.specs.Fmt.{decimal}
use Rattle.nx_fec.specs.Transfers.{CountedDevice, WroteSome, Devices}
use Rattle.nx_fec.specs.Runs.{Decodes, Encodes, Shows}
use Rattle.nx_fec.specs.texts.TableText.{table_text}
use Rattle.nx_locks.specs.Run.{ShowsLocks}
use Rattle.nx_memory.specs.Saved.{SavedStates}
use Rattle.nx_log.specs.KeptRun.{RunsOverKept}
use Rattle.nx_log.specs.LogRun.{RunsOverLog}
use Rattle.nx_log.specs.Notices.{HaveToldTorn, Notices}
use Rattle.nx_log.specs.declared.log_fault.LogFault.{LogFault}
use Rattle.nx_log.specs.declared.queries.query.Query.{Query}
use Rattle.nx_log.specs.declared.writing.form.Form.{Form}
use Rattle.nx_copies.specs.copies.Shares.{all_at_zero}
use Rattle.nx_combine.specs.CombinedPrinting.{combined}
use Rattle.nx_receiver.specs.air_file_runs.Listen.{ListensBy}
use Rattle.nx_receiver.specs.air_file_runs.ListenOnce.{ListensOnce}
use Rattle.nx_receiver.specs.air_file_runs.Resume.{ReadStateAlone, Resumes}
use Rattle.nx_receiver.specs.declared.air_file_runs.listening.Report.{Report}
use Rattle.nx_receiver.specs.declared.air_file_runs.listen_fault.ListenFault.{ListenFault}
use Rattle.nx_receiver.specs.declared.air_file_runs.listen_fault.ListenFault.TheVariants as listen
use Rattle.nx_receiver.specs.declared.air_file_runs.resume_fault.ResumeFault.{ResumeFault}
use Rattle.nx_receiver.specs.declared.air_file_runs.resume_fault.ResumeFault.TheVariants as resume
use Rattle.nx_receiver.specs.declared.air_file_runs.resume_fault.Want.TheVariants.{Log, State}
use Rattle.nx_station.specs.Checking.{Checks}
use Rattle.nx_station.specs.Damage.{Damages}
use Rattle.nx_station.specs.FileSending.{Sends}
use Rattle.nx_fec.specs.declared.fault.RunFault.{RunFault}
use Rattle.nx_fec.specs.declared.fault.RunFault.TheVariants as run
use Rattle.nx_station.specs.Slots.{HasNoSlot, IsNextSlot}
use Rattle.nx_program.specs.declared.arguments.Call.{Call}
use Rattle.nx_program.specs.declared.arguments.Sendings.{Sendings}
use Rattle.nx_program.specs.declared.arguments.Sendings.TheVariants.{Alone, Together}
use Rattle.nx_program.specs.declared.arguments.Call.TheVariants.{Check, Code, Decode, Encode, Listen}
use Rattle.nx_program.specs.declared.arguments.Call.TheVariants.{Log as LogCall, Show}
use Rattle.nx_program.specs.declared.arguments.Call.TheVariants.{Damage, Locks, Resume, Save, Send}
use Rattle.nx_program.specs.declared.arguments.Call.TheVariants.{Slots, Watch}
use Rattle.nx_program.specs.declared.log_arguments.ReadAs.{ReadAs}
use Rattle.nx_program.specs.declared.log_arguments.ReadAs.TheVariants.{Kept as AsKept, Log as AsLog}
use Rattle.nx_program.specs.declared.fault.CallFault.{CallFault}
use Rattle.nx_program.specs.declared.fault.CallFault.TheVariants as call
use Rattle.nx_program.specs.declared.fault.Fault.{Fault}
use Rattle.nx_program.specs.declared.fault.Fault.TheVariants as fault
use Rattle.nx_program.specs.Status.{status_of}
use Rattle.nx_program.specs.WatchCommand.{Beside, IsUnused, OpensNoFile, WatchesLog}
use Rattle.nx_program.specs.WatchCommand.{notices_between}
use Rattle.nx_program.specs.Arguments.{AsksForHelp, AsksForVersion, HasUnfitValue, IsRefusedByClap}
use Rattle.nx_program.specs.Arguments.{LacksKind, LacksStation, Names}

-- a device on which no call has failed
abbrev pub fresh_device : {T : Type 0} → T → CountedDevice T
fresh_device device = record { inner = device; failures = 0 }

-- nothing was read, and no read was tried
abbrev pub IsUnread : {R W : Type 0} → Devices R W → Type 0
IsUnread d = d.reader_after ≡ d.reader

-- neither device was called
pub record IsUntouched {R W : Type 0} (d : Devices R W) : Type 0 where
  pub reader : d.reader_after ≡ d.reader
  pub writer : d.writer_after ≡ d.writer

-- the outcome of a run as the program tells it: what a success answers is dropped, and a fault
-- gets this name
abbrev pub program_outcome : {N F : Type 0} → (F → CallFault) → Result N F
    → Result (Unit {0}) CallFault
program_outcome name (Ok answer) = Ok tt
program_outcome name (Err why) = Err (name why)

-- the run had an outcome of its own, of which this holds, and the program tells it so
pub record Tells {N F : Type 0} (name : F → CallFault) (answers : Result N F → Type 0)
    (outcome : Result (Unit {0}) CallFault) : Type 0 where
  pub own : Result N F
  pub answered : answers own
  pub told : outcome ≡ program_outcome name own

-- A text of which this holds was written whole, or as far as the fault says; or memory ran out
-- before it was written.
abbrev pub WritesText : {W : Type 0} → (List ℕ → Type 0) → (W → Option (List ℕ)) → CountedDevice W
    → CountedDevice W → Result (Unit {0}) RunFault → Type 0
WritesText IsText contents old new (Ok done) =
    (text : List ℕ) × IsText text × Appends (contents old.inner) (contents new.inner) text
    × (new.failures ≡ 0)
WritesText IsText contents old new (Err (run.Write written)) =
    (text : List ℕ) × IsText text
    × WroteSome (contents old.inner) (contents new.inner) text written × (new.failures ≡ 1)
WritesText IsText contents old new (Err (run.Memory want)) = new ≡ old
WritesText IsText contents old new (Err _) = ⊥

-- the line of a slot: the moment at which it begins, in decimal, a space, its civil time and a
-- newline
pub record IsSlotLine (slot : ℕ) (line : List ℕ) : Type 0 where
  pub time : List ℕ
  pub shown : IsShownAs slot time
  pub whole : line ≡ decimal slot ++ space ∷ time ++ newline ∷ []

-- the line of the station's next slot was written, whole or as far as the fault says; or the
-- station has none, and nothing was written
abbrev pub ShowsSlot : {W : Type 0} → ℕ → ℕ → (W → Option (List ℕ)) → CountedDevice W
    → CountedDevice W → Result (Unit {0}) CallFault → Type 0
ShowsSlot station moment contents old new (Ok done) =
    (slot : ℕ) × IsNextSlot station moment slot
    × WritesText (IsSlotLine slot) contents old new (Ok done)
ShowsSlot station moment contents old new (Err (call.Run why)) =
    (slot : ℕ) × IsNextSlot station moment slot
    × WritesText (IsSlotLine slot) contents old new (Err why)
ShowsSlot station moment contents old new (Err call.NoSlot) = HasNoSlot station moment × (new ≡ old)
ShowsSlot station moment contents old new (Err _) = ⊥

-- where memory ran out, neither device was called
abbrev pub IsUntouchedByWant : {R W N : Type 0} → Devices R W → Result N ListenFault → Type 0
IsUntouchedByWant d own = (error : AllocError) → own ≡ Err (listen.Memory error) → IsUntouched d

-- where memory ran out, the text of a state was read, no byte behind it, and nothing was written
abbrev pub ReadsStateBeforeWant : {R W N : Type 0} → Devices R W → Result N ResumeFault → Type 0
ReadsStateBeforeWant d own =
    (error : AllocError) → own ≡ Err (resume.Listen (listen.Memory error))
    → (states : SavedStates) × ReadStateAlone d.remaining d.reader d.reader_after states
    × (d.writer_after ≡ d.writer)

-- a run that listens, and takes the sendings of a message so: each copy by itself, with both halves
-- of the headline; or all together
abbrev pub ListensTaking : {R W : Type 0} → Sendings → Devices R W → Result Report ListenFault
    → Type 0
ListensTaking Alone d own = ListensOnce all_at_zero d own
ListensTaking Together d own = ListensBy combined all_at_zero d own

-- The call did on its input and its output what its outcome says. What stands on the output behind
-- what stood there is what the call wrote, and nothing before it, nor behind it. A watch and a run
-- over a log tell something on standard error too, and are none of these calls.
abbrev pub PerformsOnStreams : {R W : Type 0} → Call → Devices R W → Result (Unit {0}) CallFault
    → Type 0
PerformsOnStreams Decode d outcome = Tells (λ why. call.Run why) (Decodes d) outcome
PerformsOnStreams Encode d outcome = Tells (λ why. call.Run why) (Encodes d) outcome
PerformsOnStreams Code d outcome =
    IsUnread d × Tells (λ why. call.Run why)
    (WritesText (λ text. text ≡ table_text) d.contents d.writer d.writer_after) outcome
PerformsOnStreams Show d outcome = Tells (λ why. call.Run why) (Shows d) outcome
PerformsOnStreams Check d outcome = Tells (λ why. call.Check why) (Checks d) outcome
PerformsOnStreams (Listen sendings) d outcome =
    Tells (λ why. call.Listen why)
    (λ own. ListensTaking sendings d own × IsUntouchedByWant d own) outcome
PerformsOnStreams Resume d outcome =
    Tells (λ why. call.Resume why) (λ own. Resumes Log d own × ReadsStateBeforeWant d own) outcome
PerformsOnStreams Save d outcome =
    Tells (λ why. call.Resume why) (λ own. Resumes State d own × ReadsStateBeforeWant d own) outcome
PerformsOnStreams Locks d outcome =
    Tells (λ why. call.Listen why) (ShowsLocks d) outcome
PerformsOnStreams (Send station moment) d outcome =
    Tells (λ why. call.Send why) (Sends d station.byte moment) outcome
PerformsOnStreams (Slots station moment) d outcome =
    IsUnread d × ShowsSlot station.byte moment d.contents d.writer d.writer_after outcome
PerformsOnStreams (Damage kind from count) d outcome =
    Tells (λ why. call.Damage why)
    (Damages (record { kind = kind; from = from; count = count }) d) outcome
PerformsOnStreams (LogCall query form reading) d outcome = ⊥
PerformsOnStreams (Watch sendings name moment) d outcome = ⊥

-- the arguments name a call, which had this outcome
pub record RunsCall {R W : Type 0} (arguments : List Text) (d : Devices R W)
    (outcome : Result (Unit {0}) CallFault) : Type 0 where
  pub call : Call
  pub named : Names arguments call
  pub performed : PerformsOnStreams call d outcome

-- The arguments ask for help, nothing was read, and a text was written, whole or as far as the
-- outcome says. Which text that is, clap leaves open.
pub record GivesHelp {R W : Type 0} (arguments : List Text) (d : Devices R W)
    (outcome : Result (Unit {0}) CallFault) : Type 0 where
  pub asked : AsksForHelp arguments
  pub unread : IsUnread d
  pub written : Tells (λ why. call.Run why)
      (WritesText (λ text. ⊤) d.contents d.writer d.writer_after) outcome

-- the text of the version: the program's name, its version, what `rt version` says of the kit and
-- of the logic that it is proved with, and a newline
abbrev pub version_text : List ℕ
version_text =
    codes "navtex 1.2.0, proved with rattle-kit-13f logic dac8208d650f15bf" ++ newline ∷ []

-- the arguments ask for the version, nothing was read, and its text was written, whole or as far as
-- the outcome says
pub record GivesVersion {R W : Type 0} (arguments : List Text) (d : Devices R W)
    (outcome : Result (Unit {0}) CallFault) : Type 0 where
  pub asked : AsksForVersion arguments
  pub unread : IsUnread d
  pub written : Tells (λ why. call.Run why)
      (WritesText (λ text. text ≡ version_text) d.contents d.writer d.writer_after) outcome

-- memory ran out before a device was called
pub record LacksMemory {R W : Type 0} (d : Devices R W) (why : CallFault) : Type 0 where
  pub untouched : IsUntouched d
  pub memory : why ≡ call.Run (run.Memory alloc_error)

-- how the program ends where its arguments name neither a watch nor a run over a log
abbrev pub EndsOnStreams : {R W : Type 0} → List Text → Devices R W → Result (Unit {0}) Fault
    → Type 0
EndsOnStreams arguments d (Ok done) =
    RunsCall arguments d (Ok done)
    ⊎ (GivesHelp arguments d (Ok done) ⊎ GivesVersion arguments d (Ok done))
EndsOnStreams arguments d (Err (fault.Arguments answer)) = IsRefusedByClap arguments × IsUntouched d
EndsOnStreams arguments d (Err fault.NoText) = ⊥
EndsOnStreams arguments d (Err fault.Station) = LacksStation arguments × IsUntouched d
EndsOnStreams arguments d (Err fault.Kind) = LacksKind arguments × IsUntouched d
EndsOnStreams arguments d (Err (fault.Value report)) =
    HasUnfitValue arguments (string_bytes report) × IsUntouched d
EndsOnStreams arguments d (Err (fault.Watch name why)) = ⊥
EndsOnStreams arguments d (Err (fault.Call why)) =
    RunsCall arguments d (Err why)
    ⊎ (GivesHelp arguments d (Err why) ⊎ (GivesVersion arguments d (Err why) ⊎ LacksMemory d why))

-- the arguments name a watch, which had this outcome
pub record RunsWatch {R W F D E : Type 0} (arguments : List Text) (d : Devices R W)
    (b : Beside F D W E) (outcome : Result (Unit {0}) Fault) : Type 0 where
  pub sendings : Sendings
  pub name : Text
  pub moment : ℕ
  pub named : Names arguments (Watch sendings name moment)
  pub watched : WatchesLog d b sendings name moment outcome

-- what a run over a log answered, as the program tells it
abbrev pub log_outcome : Result ℕ LogFault → Result (Unit {0}) Fault
log_outcome (Ok count) = Ok tt
log_outcome (Err why) = Err (fault.Call (call.Log why))

-- what a run over a log does that is read so, and what it tells: over a kept log nothing
abbrev pub RunsOverInput : {R W : Type 0} → Query → Form → ReadAs → Devices R W → Notices
    → Result ℕ LogFault → Type 0
RunsOverInput query form (AsLog damaged) d n own = RunsOverLog query form damaged d n own
RunsOverInput query form (AsKept from) d n own =
    RunsOverKept query form from d own × HaveToldTorn n []

-- a run over a log by this query, in this form, which read it so, and told this, had an outcome of
-- its own, and the program tells it so
abbrev pub EndsLog : {R W : Type 0} → Query → Form → ReadAs → Devices R W → Notices
    → Result (Unit {0}) Fault → Type 0
EndsLog query form reading d n outcome =
    (own : Result ℕ LogFault) × RunsOverInput query form reading d n own
    × (outcome ≡ log_outcome own)

-- the same, with what was told on standard error; no file was opened
abbrev pub ReadsLog : {R W F D E : Type 0} → Query → Form → ReadAs → Devices R W
    → Beside F D W E → Result (Unit {0}) Fault → Type 0
ReadsLog query form reading d b outcome =
    OpensNoFile b
    × EndsLog query form reading d (notices_between b.contents b.faults b.faults_after) outcome

-- the arguments name a run over a log, which had this outcome
pub record RunsLog {R W F D E : Type 0} (arguments : List Text) (d : Devices R W)
    (b : Beside F D W E) (outcome : Result (Unit {0}) Fault) : Type 0 where
  pub query : Query
  pub form : Form
  pub reading : ReadAs
  pub named : Names arguments (LogCall query form reading)
  pub read : ReadsLog query form reading d b outcome

-- how the program ends: as a watch, as a run over a log, or with no file and nothing told on
-- standard error
abbrev pub EndsRun : {R W F D E : Type 0} → List Text → Devices R W → Beside F D W E
    → Result (Unit {0}) Fault → Type 0
EndsRun arguments d b outcome =
    RunsWatch arguments d b outcome
    ⊎ (RunsLog arguments d b outcome ⊎ (IsUnused b × EndsOnStreams arguments d outcome))

-- The call did what its outcome says: a watch on its file, its input, its output and standard
-- error, a run over a log on these but a file, and each other call on its input and its output
-- alone.
abbrev pub Performs : {R W F D E : Type 0} → Call → Devices R W → Beside F D W E
    → Result (Unit {0}) Fault → Type 0
Performs (Watch sendings name moment) d b outcome = WatchesLog d b sendings name moment outcome
Performs (LogCall query form reading) d b outcome = ReadsLog query form reading d b outcome
Performs call d b (Ok done) = IsUnused b × PerformsOnStreams call d (Ok done)
Performs call d b (Err (fault.Call why)) = IsUnused b × PerformsOnStreams call d (Err why)
Performs call d b (Err _) = ⊥

-- the program ends so on these devices, with this status
pub record Exits {R W F D E : Type 0} (arguments : List Text) (d : Devices R W) (b : Beside F D W E)
    (status : ℕ) : Type 0 where
  pub outcome : Result (Unit {0}) Fault
  pub ends : EndsRun arguments d b outcome
  pub status_is : status ≡ status_of outcome

-- The call that the arguments name succeeded, or they ask for help or for the version, which was
-- written. It says of each what stands on standard error: what a watch and a run over a log told
-- there, and of any other call, of help and of the version nothing.
abbrev pub Succeeds : {R W F D E : Type 0} → List Text → Devices R W → Beside F D W E → Type 0
Succeeds arguments d b = EndsRun arguments d b (Ok tt)
