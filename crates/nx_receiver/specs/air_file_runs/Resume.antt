-- A run that resumes: it reads the text of a state, and goes on from it over the air file behind
-- (this profile).
use Rattle.std.specs.Prelude.{◌≡◌, ◌⊎◌, ◌↔◌, ℕ, ◌≤◌, List, [], ◌∷◌, map, Option, Result, Ok}
use Rattle.std.specs.Prelude.{Err, IfSome, ⊤}
use Rattle.std.specs.List.{flat_map}
use Rattle.std.specs.Io.KnownBytes.{Appends, Consumes}
use Rattle.nx_fec.specs.Transfers.{Contents, CountedDevice, Devices, Extent, Writes, WroteSome}
use Rattle.nx_fec.specs.Transfers.{as_read, contents_of, whole_input}
use Rattle.nx_memory.specs.Saved.{AreSavedStates, SavedStates}
use Rattle.nx_receiver.specs.air_file_runs.Chain.{HasGoneOn, IsChain, Run, all_logs, files}
use Rattle.nx_receiver.specs.air_file_runs.Listen.{AnswersListening, AnswersUnlogged, IsLogOf, unknown_contents}
use Rattle.nx_receiver.specs.air_file_runs.ListenOnce.{HasPrintedOnce}
use Rattle.nx_copies.specs.copies.Shares.{starts_from}
use Rattle.nx_receiver.specs.air_file_runs.State.{BeginsWith, ExplainsState, IsStateBytes, state_bytes}
use Rattle.nx_receiver.specs.declared.air_file_runs.listen_fault.ListenFault.TheVariants as listen
use Rattle.nx_receiver.specs.declared.air_file_runs.listening.Report.{Report}
use Rattle.nx_receiver.specs.declared.air_file_runs.resume_fault.ResumeFault.{ResumeFault}
use Rattle.nx_receiver.specs.declared.air_file_runs.resume_fault.ResumeFault.TheVariants as resume
use Rattle.nx_receiver.specs.declared.air_file_runs.resume_fault.Want.{Want}
use Rattle.nx_receiver.specs.declared.air_file_runs.resume_fault.Want.TheVariants.{Log, State}
use Rattle.nx_receiver.specs.declared.air_file_runs.state_fault.StateFault.TheVariants as state

-- a run that went on from these states over an air file leaves something, and this holds of its
-- text
pub record HasLeft (holds : List ℕ → Type 0) (states : SavedStates) (air : List ℕ) : Type 0 where
  pub left : SavedStates
  pub sound : AreSavedStates left
  pub gone : HasGoneOn states unknown_contents air left
  pub here : holds (state_bytes left)

-- What a run answers that goes on from these states over bytes of this extent of an air file. Where
-- the log is wanted, it is written, with both halves of the headline. Where the state is wanted, no
-- log is, and the text of what the air file leaves is written; or the first bytes of it, before the
-- write that failed. A fault of listening is answered as by a run that listens, with its log or,
-- where the state is wanted, without it.
abbrev pub AnswersAir : Want → SavedStates → Extent → Contents → Result Report ResumeFault
    → List ℕ → Type 0
AnswersAir Log states extent contents (Ok report) air =
    AnswersListening (starts_from states) extent contents (Ok report) air
    × HasPrintedOnce (starts_from states) contents air
AnswersAir Log states extent contents (Err (resume.Listen fault)) air =
    AnswersListening (starts_from states) extent contents (Err fault) air
AnswersAir State states extent contents (Ok report) air =
    AnswersUnlogged (starts_from states) extent (Ok report) air
    × HasLeft (Appends contents.before contents.after) states air
AnswersAir State states extent contents (Err (resume.Listen fault)) air =
    AnswersUnlogged (starts_from states) extent (Err fault) air
AnswersAir State states extent contents (Err (resume.Write written)) air =
    ((report : Report) × AnswersUnlogged (starts_from states) extent (Ok report) air)
    × HasLeft (λ text. WroteSome contents.before contents.after text written) states air
AnswersAir want states extent contents outcome air = ⊥

-- What a run that resumes answers to bytes of this extent of its input: a fault of the state. Or
-- they begin with the text of a state, from which the run goes on over the air file that follows.
abbrev pub AnswersResuming : Want → Extent → Contents → Result Report ResumeFault → List ℕ
    → Type 0
AnswersResuming want extent contents (Err (resume.State fault)) input =
    ExplainsState extent input fault
AnswersResuming want extent contents outcome input =
    BeginsWith input (λ states air. AnswersAir want states extent contents outcome air)

-- a read failed: of the state, or of the air file
abbrev pub IsUnread : Result Report ResumeFault → Type 0
IsUnread outcome =
    (outcome ≡ Err (resume.State state.Read)) ⊎ (outcome ≡ Err (resume.Listen listen.Read))

-- the fault of a failed write: of the log, or of the new state
abbrev pub write_fault : Want → ℕ → ResumeFault
write_fault Log written = resume.Listen (listen.Write written)
write_fault State written = resume.Write written

-- where nothing is written, this holds: before a fault of the state; and where the state is wanted,
-- before all else succeeded
abbrev pub WhereUnwritten : Want → Result Report ResumeFault → Type 0 → Type 0
WhereUnwritten want (Err (resume.State fault)) P = P
WhereUnwritten State (Err (resume.Listen fault)) P = P
WhereUnwritten want outcome P = ⊤

-- A run from a reader to a writer that answers so, to the bytes that it read, and to the whole
-- input where it is known, however it came. A read fails exactly where the outcome says so, and so
-- does a write; and then no more is called.
pub record ResumesBy {R W : Type 0}
    (answers : Extent → Contents → Result Report ResumeFault → List ℕ → Type 0)
    (want : Want) (d : Devices R W) (outcome : Result Report ResumeFault) : Type 0 where
  pub bytes : List ℕ
  pub consumed : Consumes (d.remaining d.reader.inner) (d.remaining d.reader_after.inner) bytes
  pub answer : answers (as_read d) (contents_of d) outcome bytes
  pub file : IfSome (d.remaining d.reader.inner) (answers whole_input (contents_of d) outcome)
  pub unread : IsUnread outcome ↔ (d.reader_after.failures ≡ 1)
  pub once : d.reader_after.failures ≤ 1
  pub writes : Writes d.writer_after (write_fault want) outcome
  pub unwritten : WhereUnwritten want outcome (d.writer_after ≡ d.writer)

-- a run that resumes
abbrev pub Resumes : {R W : Type 0} → Want → Devices R W → Result Report ResumeFault → Type 0
Resumes want d outcome = ResumesBy (AnswersResuming want) want d outcome

-- the text of this state was read, and no byte behind it
pub record ReadStateAlone {R : Type 0} (remaining : R → Option (List ℕ)) (old new : CountedDevice R)
    (states : SavedStates) : Type 0 where
  pub text : List ℕ
  pub consumed : Consumes (remaining old.inner) (remaining new.inner) text
  pub stands_for : IsStateBytes text states

-- ---- a chain of runs, by the texts of states alone

-- a run over an air file: the bytes of the file, of the log, and of the new state
pub record TextRun : Type 0 where
  pub file : List ℕ
  pub log : List ℕ
  pub state : List ℕ

-- this is the log of a run over the text of a state and an air file
pub record WritesLog (text file log : List ℕ) : Type 0 where
  pub states : SavedStates
  pub stands_for : IsStateBytes text states
  pub logged : IsLogOf (starts_from states) file log

-- and this the text of what it leaves
pub record WritesState (text file written : List ℕ) : Type 0 where
  pub states : SavedStates
  pub stands_for : IsStateBytes text states
  pub leaves : HasLeft (λ bytes. written ≡ bytes) states file

-- The runs, in order, are a chain of texts: the first begins with the text `first`, each other with
-- the text that the run before it wrote, and the last writes `last`.
abbrev pub IsTextChain : List ℕ → List TextRun → List ℕ → Type 0
IsTextChain first [] last = last ≡ first
IsTextChain first (run ∷ runs) last =
    WritesLog first run.file run.log × WritesState first run.file run.state
    × IsTextChain run.state runs last

-- the files of such a chain, in order, and its logs, joined
abbrev pub text_files : List TextRun → List (List ℕ)
text_files runs = map (λ run. run.file) runs

abbrev pub text_logs : List TextRun → List ℕ
text_logs runs = flat_map (λ run. run.log) runs

-- Runs over texts, of which the last wrote `last`, are a chain that begins with what is saved. Its
-- runs read their files, and have their logs, and the last text stands for what it leaves.
pub record HasChain (saved : SavedStates) (runs : List TextRun) (last : List ℕ) : Type 0 where
  pub chain : List Run
  pub left : SavedStates
  pub is : IsChain saved chain left
  pub same_files : files chain ≡ text_files runs
  pub same_logs : all_logs chain ≡ text_logs runs
  pub stands_for : IsStateBytes last left
