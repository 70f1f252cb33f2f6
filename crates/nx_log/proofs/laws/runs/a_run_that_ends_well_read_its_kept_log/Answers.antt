use Rattle.std.proofs.Common.{subst}
use Rattle.nx_log.specs.KeptLog.{StandForPlaced}
use Rattle.nx_log.specs.LogRun.{most_read}
use Rattle.nx_log.proofs.lemmas.runs.Laws.{all_read, no_read_failed, no_write_failed}
use Rattle.nx_log.proofs.laws.runs.a_run_that_ends_well_read_its_kept_log.Goals as goal

pub returns : goal.returns
returns g c = record {
  counted = λ query form from d count input h known.
      let all = all_read most_read (d.remaining d.reader.inner)
      (d.remaining d.reader_after.inner) h.bytes input h.consumed known h.within h.answer.0 in (
        h.answer.1,
        subst (λ bytes. StandForPlaced from bytes h.answer.1) all h.answer.2,
        h.answer.4,
      );
  unfailed = λ query form from d count h. (
    no_read_failed query count d.reader_after.failures h.read_once h.read_failed,
    no_write_failed query count d.writer_after.failures h.write_once h.unwritten.1,
  );
}
