-- What holds of a run over an air file, where the text of a state was read before it.
use Rattle.std.proofs.Common.{ℕ, List, ◌++◌, Option, None, Some, IfSome, Result, Ok, Err}
use Rattle.std.proofs.Common.{refl, sym, ap, ◌∙◌, subst, append-nil}
use Rattle.std.specs.Io.KnownBytes.{Consumes}
use Rattle.std.proofs.KnownBytes.{Consumes-trans}
use Rattle.nx_fec.specs.Transfers.{Contents, CountedDevice, Devices, Extent}
use Rattle.nx_memory.specs.Saved.{SavedStates}
use Rattle.nx_receiver.specs.air_file_runs.Resume.{AnswersAir, AnswersResuming, ReadStateAlone, Resumes}
use Rattle.nx_receiver.specs.air_file_runs.Resume.{ResumesBy}
use Rattle.nx_receiver.specs.air_file_runs.State.{BeginsWith, IsStateBytes, ReadsState}
use Rattle.nx_receiver.specs.declared.air_file_runs.listening.Report.{Report}
use Rattle.nx_receiver.specs.declared.air_file_runs.resume_fault.ResumeFault.{ResumeFault}
use Rattle.nx_receiver.specs.declared.air_file_runs.resume_fault.ResumeFault.TheVariants as resume
use Rattle.nx_receiver.specs.declared.air_file_runs.resume_fault.Want.{Want}
use Rattle.nx_receiver.specs.declared.air_file_runs.resume_fault.Want.TheVariants.{Log, State}

abbrev Outcome : Type 0
Outcome = Result Report ResumeFault

-- the text of the state alone was read
pub read-alone : {R : Type 0} (remaining : R → Option (List ℕ)) (old new : CountedDevice R)
    (states : SavedStates) → ReadsState remaining old new (Ok states)
    → ReadStateAlone remaining old new states
read-alone remaining old new states h =
    let begins = h.answer in
    let whole = begins.whole ∙ ap (λ l. begins.text ++ l) begins.here.1 ∙ append-nil begins.text in
    record {
      text = begins.text;
      consumed = subst (Consumes (remaining old.inner) (remaining new.inner)) whole h.consumed;
      stands_for = subst (IsStateBytes begins.text) (sym begins.here.0) begins.stands_for;
    }

-- what holds of known bytes behind others
behind : (a b : Option (List ℕ)) (text : List ℕ) (P Q : List ℕ → Type 0) → Consumes a b text
    → ((air : List ℕ) → P air → Q (text ++ air)) → IfSome b P → IfSome a Q
behind None b text P Q consumed f h = tt
behind (Some xs) None text P Q consumed f h = absurd consumed
behind (Some xs) (Some ys) text P Q consumed f h = subst Q (sym consumed) (f ys h)

begins-with : (text air : List ℕ) (states : SavedStates) (holds : SavedStates → List ℕ → Type 0)
    → IsStateBytes text states → holds states air → BeginsWith (text ++ air) holds
begins-with text air states holds stands here = record {
  text = text;
  more = air;
  states = states;
  whole = refl;
  stands_for = stands;
  here = here;
}

module _ {R W : Type 0} (remaining : R → Option (List ℕ)) (contents : W → Option (List ℕ))
    (old mid new : CountedDevice R) (writer writer_after : CountedDevice W) where
  abbrev air_part : Devices R W
  air_part = record {
    remaining = remaining;
    contents = contents;
    reader = mid;
    reader_after = new;
    writer = writer;
    writer_after = writer_after;
  }

  abbrev whole_run : Devices R W
  whole_run = record {
    remaining = remaining;
    contents = contents;
    reader = old;
    reader_after = new;
    writer = writer;
    writer_after = writer_after;
  }

  resumes-as : (states : SavedStates) (want : Want) (outcome : Outcome)
      → ReadStateAlone remaining old mid states
      → ((extent : Extent) (held : Contents) (air text : List ℕ)
      → IsStateBytes text states
      → AnswersAir want states extent held outcome air
      → AnswersResuming want extent held outcome (text ++ air))
      → ResumesBy (AnswersAir want states) want air_part outcome
      → Resumes want whole_run outcome
  resumes-as states want outcome read answers h = record {
    bytes = read.text ++ h.bytes;
    consumed = Consumes-trans _ _ _ _ _ read.consumed h.consumed;
    answer = answers _ _ h.bytes read.text read.stands_for h.answer;
    file = behind _ _ read.text _ _ read.consumed
        (λ air k. answers _ _ air read.text read.stands_for k) h.file;
    unread = h.unread;
    once = h.once;
    writes = h.writes;
    unwritten = h.unwritten;
  }

  pub resumes-behind : (states : SavedStates) (want : Want) (outcome : Outcome)
      → ReadStateAlone remaining old mid states
      → ResumesBy (AnswersAir want states) want air_part outcome
      → Resumes want whole_run outcome
  resumes-behind states want (Ok report) read h =
      resumes-as states want (Ok report) read
      (λ extent held air text stands k. begins-with text air states _ stands k) h
  resumes-behind states Log (Err (resume.State fault)) read h = absurd (h.answer)
  resumes-behind states State (Err (resume.State fault)) read h = absurd (h.answer)
  resumes-behind states want (Err (resume.Listen fault)) read h =
      resumes-as states want (Err (resume.Listen fault)) read
      (λ extent held air text stands k. begins-with text air states _ stands k) h
  resumes-behind states want (Err (resume.Write written)) read h =
      resumes-as states want (Err (resume.Write written)) read
      (λ extent held air text stands k. begins-with text air states _ stands k) h
