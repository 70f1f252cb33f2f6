-- What each call over slices answers, by the run below it: a reader over a slice gave all its
-- bytes, and what was written begins empty (this profile).
use Rattle.std.specs.Prelude.{ℕ, ◌≡◌, ◌≢◌, ◌==◌, nat_lt, if◌then◌else◌, List, [], length, Some}
use Rattle.std.specs.Prelude.{Result, Ok, Err, IfErr}
use Rattle.std.specs.declared.alloc.AllocError.{AllocError}
use Rattle.nx_c.specs.Faults.{resume_told}
use Rattle.nx_c.specs.Told.{Answer, IsTold, answer, ended_told}
use Rattle.nx_fec.specs.Transfers.{Contents, whole_input}
use Rattle.nx_fec.specs.Runs.{AnswersEncoding, AnswersWordRun, IsDecoded, file_limit}
use Rattle.nx_fec.specs.declared.fault.RunFault.{RunFault}
use Rattle.nx_fec.specs.declared.fault.RunFault.TheVariants as run
use Rattle.nx_handle.specs.CallerRoom.{IsCopiedOut, Room}
use Rattle.nx_handle.specs.Status.{number_of}
use Rattle.nx_handle.specs.declared.status.Status.TheVariants.{Done, StateNoRoom}
use Rattle.nx_memory.specs.Saved.{AreSavedStates, SavedStates}
use Rattle.nx_receiver.specs.air_file_runs.Chain.{HasGoneOn}
use Rattle.nx_receiver.specs.air_file_runs.Listen.{AnswersListening}
use Rattle.nx_receiver.specs.air_file_runs.ListenOnce.{HasPrintedOnce}
use Rattle.nx_copies.specs.copies.Shares.{Starts, all_at_zero, starts_from}
use Rattle.nx_receiver.specs.air_file_runs.State.{BeginsWith, ExplainsState, state_bytes}
use Rattle.nx_receiver.specs.declared.air_file_runs.listen_fault.ListenFault.{ListenFault}
use Rattle.nx_receiver.specs.declared.air_file_runs.listen_fault.ListenFault.TheVariants.{Memory}
use Rattle.nx_receiver.specs.declared.air_file_runs.listening.Report.{Report}
use Rattle.nx_receiver.specs.declared.air_file_runs.resume_fault.ResumeFault.{ResumeFault}
use Rattle.nx_receiver.specs.declared.air_file_runs.resume_fault.ResumeFault.TheVariants.{State, Listen, Write}
use Rattle.nx_station.specs.Checking.{AnswersChecking}
use Rattle.nx_station.specs.FileSending.{AnswersSending}
use Rattle.nx_station.specs.declared.fault.CheckFault.{CheckFault}
use Rattle.nx_station.specs.declared.fault.CheckFault.TheVariants.{Run}
use Rattle.nx_station.specs.declared.fault.SendRunFault.{SendRunFault}
use Rattle.nx_station.specs.declared.fault.SendRunFault.TheVariants as sending
use Rattle.nx_station.specs.declared.sending.Sent.{Sent}

-- a writer that held nothing, and holds these bytes
abbrev pub written_anew : List ℕ → Contents
written_anew bytes = record { before = Some []; after = Some bytes }

-- ---- listening

-- a run that listens to these bytes, with this start, writes this log, and none where there is no
-- memory for it
pub record ListensFrom (starts : Starts) (air log : List ℕ) (outcome : Result Report ListenFault)
    : Type 0 where
  pub answers : AnswersListening starts whole_input (written_anew log) outcome air
  pub memory : (error : AllocError) → outcome ≡ Err (Memory error) → log ≡ []

abbrev pub ListensTo : List ℕ → List ℕ → Result Report ListenFault → Type 0
ListensTo air log outcome = ListensFrom all_at_zero air log outcome

-- A run went on from these states over an air file to its end: it has this log, with both halves of
-- the headline, and leaves what this text spells.
pub record HasResumed (states : SavedStates) (air log text : List ℕ) : Type 0 where
  pub left : SavedStates
  pub sound : AreSavedStates left
  pub gone : HasGoneOn states (written_anew log) air left
  pub printed : HasPrintedOnce (starts_from states) (written_anew log) air
  pub spelled : text ≡ state_bytes left

-- A run that goes on from these states over an air file has this log, and leaves this text of a
-- state: none after a fault. The fault of a write is that of the new state, behind a log that is
-- whole.
abbrev pub GoesOnTo : SavedStates → List ℕ → List ℕ → List ℕ → Result Report ResumeFault → Type 0
GoesOnTo states air log left (Ok report) =
    ListensFrom (starts_from states) air log (Ok report) × HasResumed states air log left
GoesOnTo states air log left (Err (State fault)) = ⊥
GoesOnTo states air log left (Err (Listen fault)) =
    ListensFrom (starts_from states) air log (Err fault) × (left ≡ [])
GoesOnTo states air log left (Err (Write written)) =
    ((report : Report) × ListensFrom (starts_from states) air log (Ok report)) × (left ≡ [])

-- A run goes on so from the state with which these bytes begin; or they begin with none, and then
-- there is no log.
abbrev pub ResumesTo : List ℕ → List ℕ → List ℕ → List ℕ → Result Report ResumeFault → Type 0
ResumesTo state air log left (Err (State fault)) =
    ExplainsState whole_input state fault × (log ≡ []) × (left ≡ [])
ResumesTo state air log left outcome =
    BeginsWith state (λ states more. GoesOnTo states air log left outcome)

-- the text of a state that is handed out: only where the status before it says that all is done
abbrev pub handed : ℕ → List ℕ → List ℕ
handed status left = if status == number_of Done then left else []

-- the status behind that text, of so many bytes, and a room of so many
abbrev pub after_handing : ℕ → ℕ → ℕ → ℕ
after_handing status count capacity =
    if status == number_of Done
    then (if nat_lt capacity count then number_of StateNoRoom else number_of Done)
    else status

-- A call that goes on from a state: a log, the text of a state and an outcome were told so.
pub record TellsResuming (state air : List ℕ) (log new_state : Room) (a : Answer) : Type 0 where
  pub text : List ℕ
  pub left : List ℕ
  pub outcome : Result Report ResumeFault
  pub is_run : ResumesTo state air text left outcome
  pub status : ℕ
  pub told : IsTold (ended_told resume_told outcome) text log (answer status a.place)
  pub handed_out : IsCopiedOut (handed status left) new_state
  pub answered : a.status ≡ after_handing status (length left) (length new_state.old)

-- ---- runs that write at their end

-- a run that decodes these bytes writes this text, and none before a fault that isn't one of
-- writing
pub record DecodesTo (air text : List ℕ) (outcome : Result ℕ RunFault) : Type 0 where
  pub answers : AnswersWordRun
      (λ text count. IsDecoded file_limit air text × (count ≡ length text))
      whole_input air (written_anew text) outcome
  pub unwritten : IfErr outcome (λ why. ((written : ℕ) → why ≢ run.Write written) → text ≡ [])

-- a run that encodes this text writes these bytes, or none
pub record EncodesTo (text air : List ℕ) (outcome : Result ℕ RunFault) : Type 0 where
  pub answers : AnswersEncoding whole_input text (written_anew air) outcome
  pub unwritten : IfErr outcome (λ why. ((written : ℕ) → why ≢ run.Write written) → air ≡ [])

-- a run that sends this message file of a station, from a moment on, writes these bytes, or none
pub record SendsTo (station moment : ℕ) (file air : List ℕ) (outcome : Result Sent SendRunFault)
    : Type 0 where
  pub answers : AnswersSending station moment whole_input file (written_anew air) outcome
  pub unwritten : IfErr outcome (λ why. ((written : ℕ) → why ≢ sending.Write written) → air ≡ [])

-- a run that checks these bytes writes this text, or none
pub record ChecksTo (air text : List ℕ) (outcome : Result ℕ CheckFault) : Type 0 where
  pub answers : AnswersChecking whole_input air (written_anew text) outcome
  pub unwritten : IfErr outcome (λ why.
      ((written : ℕ) → why ≢ Run (run.Write written)) → text ≡ [])
