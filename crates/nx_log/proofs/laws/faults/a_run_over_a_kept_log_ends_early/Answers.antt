use Rattle.std.proofs.Common.{inl, inr, refl, subst}
use Rattle.std.specs.Io.KnownBytes.{Consumes}
use Rattle.nx_log.specs.LogRun.{most_read}
use Rattle.nx_log.proofs.lemmas.runs.Laws.{all_read}
use Rattle.nx_log.proofs.laws.faults.a_run_over_a_kept_log_ends_early.Goals as goal

pub returns : goal.returns
returns g c = record {
  unread = λ query form from d h.
      let is = h.answer in (h.bytes, is.0, h.consumed, is.1, is.2, h.unread refl);
  damaged = λ query form from d line input h known.
      let is = h.answer in (
        h.bytes,
        is.0,
        is.1,
        h.consumed,
        elim is.2 [
          | inl before ↦ inl before
          | inr all ↦ inr (all_read most_read (d.remaining d.reader.inner)
              (d.remaining d.reader_after.inner) h.bytes input h.consumed known h.within all)
        ],
        is.3,
      );
  unwritten = λ query form from d written h.
      let is = h.answer in
      let begin = is.1 in (
        begin.front,
        begin.more,
        is.0,
        subst (Consumes (d.remaining d.reader.inner) (d.remaining d.reader_after.inner))
            begin.split h.consumed,
        begin.hold,
        is.2,
        h.unwritten.0 (written, refl),
      );
}
