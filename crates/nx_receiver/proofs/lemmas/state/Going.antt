-- A run that goes on from a state over an air file, and writes its log, or what it leaves.
use Rattle.std.proofs.Common.{◌≡◌, ℕ, Ok, Err, inl, inr, refl}
use Rattle.std.proofs.Common.{arith}
use Rattle.nx_fec.specs.Transfers.{Devices}
use Rattle.nx_fec.proofs.lemmas.devices.TransferLaws.{Ok-not_err}
use Rattle.std.specs.Io.KnownBytes.{Appends}
use Rattle.nx_fec.specs.Transfers.{WroteSome}
use Rattle.nx_memory.specs.Saved.{AreSavedStates, SavedStates}
use Rattle.nx_receiver.specs.air_file_runs.Listen.{Listens}
use Rattle.nx_receiver.specs.air_file_runs.Resume.{AnswersAir, IsUnread, ResumesBy}
use Rattle.nx_copies.specs.copies.Shares.{starts_from}
use Rattle.nx_receiver.specs.air_file_runs.State.{state_bytes}
use Rattle.nx_receiver.specs.declared.air_file_runs.listening.Report.{Report}
use Rattle.nx_receiver.specs.declared.air_file_runs.resume_fault.ResumeFault.TheVariants as resume
use Rattle.nx_receiver.specs.declared.air_file_runs.resume_fault.Want.TheVariants.{Log, State}
use Rattle.nx_receiver.specs.private.Unlogged.{ListensUnlogged}
use Rattle.nx_receiver.proofs.lemmas.listening.Once.{printed-once}
use Rattle.nx_receiver.proofs.lemmas.listening.Runs.{on-some}

-- a report is no failed read
report_read : (report : Report) → IsUnread (Ok report) → ⊥
report_read report (inl e) = cc
report_read report (inr e) = cc

-- a failed write is no failed read
write_read : (written : ℕ) → IsUnread (Err (resume.Write written)) → ⊥
write_read written (inl e) = cc
write_read written (inr e) = cc

module _ {R W : Type 0} (d : Devices R W) (states : SavedStates) where
  -- the log was written
  pub logs-all : (report : Report) → Listens (starts_from states) d (Ok report)
      → ResumesBy (AnswersAir Log states) Log d (Ok report)
  logs-all report h = record {
    bytes = h.bytes;
    consumed = h.consumed;
    answer = (h.answer, printed-once (starts_from states) _ h.bytes report h.answer.1);
    file = on-some (d.remaining d.reader.inner) _ _
        (λ input k. (k, printed-once (starts_from states) _ input report k.1)) h.file;
    unread = (
      λ e. absurd (report_read report e),
      λ failed. absurd (Ok-not_err _ _ (h.unread.1 failed)),
    );
    once = h.read_once;
    writes = record {
      failed = (
        λ w. absurd (Ok-not_err _ _ w.1),
        λ one. absurd (Ok-not_err _ _ (h.unwritten.1 one).1),
      );
      once = h.write_once;
    };
    unwritten = tt;
  }

  -- the text of what the run leaves was written
  pub saves-all : (report : Report) (left : SavedStates)
      → ListensUnlogged states d.remaining d.reader d.reader_after (Ok (report, left))
      → AreSavedStates left
      → Appends (d.contents d.writer.inner) (d.contents d.writer_after.inner) (state_bytes left)
      → d.writer_after.failures ≡ 0
      → ResumesBy (AnswersAir State states) State d (Ok report)
  saves-all report left h sound here none = record {
    bytes = h.bytes;
    consumed = h.consumed;
    answer = (
      h.answer.0,
      record { left = left; sound = sound; gone = h.answer.1; here = here },
    );
    file = on-some (d.remaining d.reader.inner) _ _ (λ input k. (
      k.0,
      record { left = left; sound = sound; gone = k.1; here = here },
    )) h.file;
    unread = (
      λ e. absurd (report_read report e),
      λ failed. absurd (Ok-not_err _ _ (h.failed.1 failed)),
    );
    once = h.once;
    writes = record {
      failed = (λ w. absurd (Ok-not_err _ _ w.1), λ one. absurd (omega (arith, none, one)));
      once = omega (arith, none);
    };
    unwritten = tt;
  }

  -- the air file was read to its end, and writing the new state failed
  pub saves-some : (report : Report) (left : SavedStates) (written : ℕ)
      → ListensUnlogged states d.remaining d.reader d.reader_after (Ok (report, left))
      → AreSavedStates left
      → WroteSome (d.contents d.writer.inner) (d.contents d.writer_after.inner) (state_bytes left)
      written
      → d.writer_after.failures ≡ 1
      → ResumesBy (AnswersAir State states) State d (Err (resume.Write written))
  saves-some report left written h sound here one = record {
    bytes = h.bytes;
    consumed = h.consumed;
    answer = (
      (report, h.answer.0),
      record { left = left; sound = sound; gone = h.answer.1; here = here },
    );
    file = on-some (d.remaining d.reader.inner) _ _ (λ input k. (
      (report, k.0),
      record { left = left; sound = sound; gone = k.1; here = here },
    )) h.file;
    unread = (
      λ e. absurd (write_read written e),
      λ failed. absurd (Ok-not_err _ _ (h.failed.1 failed)),
    );
    once = h.once;
    writes = record { failed = (λ w. one, λ w. (written, refl)); once = omega (arith, one) };
    unwritten = tt;
  }
