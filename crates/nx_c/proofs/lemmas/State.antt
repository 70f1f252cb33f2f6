-- A run that goes on from the state with which some bytes begin.
use Rattle.std.proofs.Common.{◌≡◌, ℕ, List, IfSome, Some, Result, Ok, Err, OnOk}
use Rattle.std.proofs.Common.{subst, sym}
use Rattle.nx_fec.specs.Transfers.{Contents, Devices, contents_of, whole_input}
use Rattle.nx_fec.proofs.lemmas.devices.TransferLaws.{IfSome-end}
use Rattle.nx_memory.specs.Saved.{SavedStates}
use Rattle.nx_receiver.specs.air_file_runs.Chain.{HasGoneOn}
use Rattle.nx_receiver.specs.air_file_runs.ListenFrom.{GoesOnBy}
use Rattle.nx_receiver.specs.air_file_runs.State.{AnswersState, BeginsWith}
use Rattle.nx_receiver.specs.declared.air_file_runs.listening.Report.{Report}
use Rattle.nx_receiver.specs.declared.air_file_runs.resume_fault.ResumeFault.{ResumeFault}
use Rattle.nx_receiver.specs.declared.air_file_runs.resume_fault.ResumeFault.TheVariants.{State, Listen, Write}
use Rattle.nx_c.specs.Calls.{GoesOnTo, HasResumed, ResumesTo}

-- what holds of the state that was read holds of the one with which the bytes begin
begins-with : (input : List ℕ) (states : SavedStates) (P : SavedStates → Type 0)
    → AnswersState whole_input input (Ok states) → P states
    → BeginsWith input (λ others more. P others)
begins-with input states P h p = record {
  text = h.text;
  more = h.more;
  states = h.states;
  whole = h.whole;
  stands_for = h.stands_for;
  here = subst P h.here.0 p;
}

module _ (input air log left : List ℕ) (states : SavedStates) where
  pub resumes-to : (outcome : Result Report ResumeFault)
      → AnswersState whole_input input (Ok states)
      → GoesOnTo states air log left outcome → ResumesTo input air log left outcome
  resumes-to (Ok report) h run =
      begins-with input states (λ others. GoesOnTo others air log left (Ok report)) h run
  resumes-to (Err (State fault)) h run = absurd run
  resumes-to (Err (Listen fault)) h run =
      begins-with input states (λ others. GoesOnTo others air log left (Err (Listen fault))) h run
  resumes-to (Err (Write written)) h run =
      begins-with input states (λ others. GoesOnTo others air log left (Err (Write written))) h run

  -- a run without a fault has the log, and leaves the state
  pub resumed-to : (outcome : Result Report ResumeFault) → ResumesTo input air log left outcome
      → OnOk outcome (BeginsWith input (λ others more. HasResumed others air log left))
  resumed-to (Ok report) h = record {
    text = h.text;
    more = h.more;
    states = h.states;
    whole = h.whole;
    stands_for = h.stands_for;
    here = h.here.1;
  }
  resumed-to (Err fault) h = tt

-- what a run leaves that read its file to the end, it leaves of the whole file
pub leaves-whole : {R W : Type 0} (saved left : SavedStates) (d : Devices R W) (report : Report)
    → GoesOnBy saved d (Ok (report, left))
    → IfSome (d.remaining d.reader.inner)
    (λ file. HasGoneOn saved (contents_of d) file left)
leaves-whole saved left d report h =
    let run = h.listens.run in
    IfSome-end (d.remaining d.reader.inner) (d.remaining d.reader_after.inner) run.bytes
    (λ file. HasGoneOn saved (contents_of d) file left) run.consumed run.answer.0 h.left

-- a writer that held and holds these bytes
abbrev pub told : List ℕ → List ℕ → Contents
told before after = record { before = Some before; after = Some after }

-- what holds of the contents of a writer and of the bytes of a reader holds of lists that they are
pub moved : (P : Contents → List ℕ → Type 0)
    → {a a' b b' xs xs' : List ℕ} → a ≡ a' → b ≡ b' → xs ≡ xs'
    → P (told a b) xs → P (told a' b') xs'
moved P {a} {a'} {b} {b'} {xs} {xs'} old new read p =
    subst (λ l. P (told a' b') l) read
    (subst (λ l. P (told a' l) xs) new (subst (λ l. P (told l b) xs) old p))

-- a run that resumed has the log and the state that stand in the rooms
pub in-rooms : (input air : List ℕ) {log log' left left' : List ℕ} → log' ≡ log → left' ≡ left
    → BeginsWith input (λ states more. HasResumed states air log left)
    → BeginsWith input (λ states more. HasResumed states air log' left')
in-rooms input air {log} {log'} {left} {left'} same_log same_left h =
    subst (λ l. BeginsWith input (λ states more. HasResumed states air l left')) (sym same_log)
    (subst (λ l. BeginsWith input (λ states more. HasResumed states air log l)) (sym same_left) h)
