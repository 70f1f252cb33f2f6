use Rattle.std.proofs.Common.{[], arith, inl, inr, refl}
use Rattle.std.proofs.KnownBytes.{Appends-nil, Consumes-nil}
use Rattle.std.proofs.lemmas.Result.{err_from_is_err_and}
use Rattle.nx_fec.specs.Transfers.{devices}
use Rattle.nx_fec.proofs.lemmas.lines.ReadingLaws.{Err-same}
use Rattle.nx_fec.proofs.lemmas.devices.TransferLaws.{Ok-not_err, Writes-fault, Writes-sound}
use Rattle.nx_log.specs.NotedReader.{counted_of}
use Rattle.nx_log.specs.Notices.{notices_of}
use Rattle.nx_log.proofs.lemmas.runs.LogRuns.{ends-answer, finished-answer, memory-not-read, memory-not-write, none-told, ran-out-first}
use Rattle.nx_log.proofs.log_runs.log_run.Goals as goal

pub end-requires : goal.end-requires
end-requires g c = record {
  writer = Writes-sound _ _ _ (λ written. Ok-not_err _ _) c.in_ok-read_log.ensures.writes;
}

pub returns-in_err-buffer-clause-runs : goal.returns-in_err-buffer-clause-runs
returns-in_err-buffer-clause-runs g c =
    let d = devices g.R.Read.remaining g.W.Write.contents (counted_of c.args.reader.now)
    (counted_of c.args.reader.now)
    c.args.writer.now c.args.writer.now in
    let old = g.W.Write.contents c.args.writer.now.inner in
    let told = g.N.Write.contents c.args.notices.now.inner in
    let failures = c.args.notices.now.failures in
    let n = notices_of told told failures in
    let p = err_from_is_err_and c.from_residual.result c.from_residual.ensures.1 in
    let error = c.in_err-buffer.field-0.0 in
    rw p.1 (rw p.2 (record {
      bytes = [];
      consumed = Consumes-nil (g.R.Read.remaining (counted_of c.args.reader.now).inner);
      within = omega arith;
      answer = ran-out-first c.args.query.now c.args.form d n c.new-run.result error c.args.damaged
          refl refl (none-told told failures c.requires.notices)
          (c.new-run.ensures.running c.args.query.now c.args.form old told failures
          c.requires.notices) (Appends-nil old);
      unread = λ e. absurd (memory-not-read error e);
      read_failed = λ one. absurd (omega (arith, c.requires.reader, one));
      read_once = omega (arith, c.requires.reader);
      unwritten = (
        λ w. absurd (memory-not-write error w.0 w.1),
        λ one. absurd (omega (arith, c.requires.writer, one)),
      );
      write_once = omega (arith, c.requires.writer);
    }))

pub returns-in_err-read_log-clause-runs : goal.returns-in_err-read_log-clause-runs
returns-in_err-read_log-clause-runs g c =
    let d = devices g.R.Read.remaining g.W.Write.contents (counted_of c.args.reader.now)
    (counted_of c.read_log.new.reader)
    c.args.writer.now c.read_log.new.writer in
    let p = err_from_is_err_and c.from_residual-in_err-read_log.result
    c.from_residual-in_err-read_log.ensures.1 in
    let old = g.W.Write.contents c.args.writer.now.inner in
    let told = g.N.Write.contents c.args.notices.now.inner in
    let n = notices_of told (g.N.Write.contents c.read_log.new.notices.inner)
    c.read_log.new.notices.failures in
    let r = c.in_err-read_log.ensures.read c.args.damaged old told
    (c.new-run.ensures.running c.args.query.now c.args.form old told c.args.notices.now.failures
    c.requires.notices) in
    let writes = Writes-fault _ _ _ c.in_err-read_log.ensures.writes in
    rw p.1 (rw p.2 (record {
      bytes = r.0;
      consumed = r.1;
      within = r.2;
      answer = ends-answer c.args.query.now c.args.form d n r.0 r.2 c.args.damaged
          c.in_err-read_log.field-0.0 r.3;
      unread = λ e. c.in_err-read_log.ensures.unread (Err-same _ _ e);
      read_failed = λ one. elim (c.in_err-read_log.ensures.read_failed one) [
        | inl e ↦ inl (Err-same _ _ e)
        | inr w ↦ inr (w.0, (w.1.0, Err-same _ _ w.1.1))
      ];
      read_once = c.in_err-read_log.ensures.once;
      unwritten = writes.failed;
      write_once = writes.once;
    }))

pub returns-clause-runs : goal.returns-clause-runs
returns-clause-runs g c =
    let d = devices g.R.Read.remaining g.W.Write.contents (counted_of c.args.reader.now)
    (counted_of c.read_log.new.reader)
    c.args.writer.now c.end.new.writer in
    let old = g.W.Write.contents c.args.writer.now.inner in
    let told = g.N.Write.contents c.args.notices.now.inner in
    let n = notices_of told (g.N.Write.contents c.end.new.notices.inner)
    c.end.new.notices.failures in
    let r = c.in_ok-read_log.ensures.read c.args.damaged old told
    (c.new-run.ensures.running c.args.query.now c.args.form old told c.args.notices.now.failures
    c.requires.notices) in
    record {
      bytes = r.0;
      consumed = r.1;
      within = r.2;
      answer = finished-answer c.args.query.now c.args.form d n r.0 r.2 c.args.damaged c.end.result
          r.3.0
          (c.end.ensures.ended c.args.query.now c.args.damaged old told r.0 r.2 r.3.1);
      unread = λ e. absurd (c.end.ensures.unread e);
      read_failed = λ one. elim (c.in_ok-read_log.ensures.read_failed one) [
        | inl e ↦ absurd (Ok-not_err _ _ e)
        | inr w ↦ absurd (Ok-not_err _ _ w.1.1)
      ];
      read_once = c.in_ok-read_log.ensures.once;
      unwritten = c.end.ensures.writes.failed;
      write_once = c.end.ensures.writes.once;
    }

pub returns-clause-told_before : goal.returns-clause-told_before
returns-clause-told_before g c = λ one. elim (c.in_ok-read_log.ensures.read_failed one) [
  | inl e ↦ absurd (Ok-not_err _ _ e)
  | inr w ↦ absurd (Ok-not_err _ _ w.1.1)
]
