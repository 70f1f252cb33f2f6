use Rattle.std.proofs.Common.{◌≡◌, [], ◌∙◌, ap, arith}
use Rattle.std.proofs.lemmas.Result.{err_from_is_err_and}
use Rattle.nx_fec.proofs.lemmas.devices.WritingLaws.{Batched, Batched-line, Batched-sent, Batched-failed}
use Rattle.nx_fec.proofs.lemmas.devices.WritingLaws.{Batched-all}
use Rattle.nx_fec.proofs.devices.writing.write_bits.Goals as goal
use Rattle.nx_fec.proofs.devices.writing.write_bits.Goals.{then-len+in_ok-sent}
use Rattle.nx_fec.proofs.devices.writing.write_bits.Goals.{else-len}

pub returns-in_err-sent-clause-err : goal.returns-in_err-sent-clause-err
returns-in_err-sent-clause-err g c =
    let p = err_from_is_err_and c.from_residual.result c.from_residual.ensures.1 in
    let b = c.loop-index.invariant.batched in
    rw p.1 (rw p.2 (Batched-failed _ _ _ _ _ _ _ _ _ b (omega (arith, c.div_ceil-index-end.ensures))
    c.as_slice.ensures
    (c.in_err-sent.ensures.bytes (g.W.Write.contents c.args.writer.now.inner) b.done b.written)))

pub loop-index-preserved : goal.loop-index-preserved
loop-index-preserved g c =
    let contents = g.W.Write.contents in
    let before = c.loop-index.invariant in
    let now = c.if-len in
    let none : now.writer.failures ≡ 0 =
    elim now.branch [
      | then-len+in_ok-sent w ↦
          ap (λ x. x.failures) w.writer-is ∙ w.in_ok-sent.ensures.counts.none
      | else-len w ↦ ap (λ x. x.failures) w.writer-is ∙ before.none
    ] in
    let batched : Batched (contents c.args.writer.now.inner) (contents now.writer.inner)
    c.args.bits.now c.loop-index.index now.sent now.batch =
    elim now.branch [
      | then-len+in_ok-sent w ↦
          let empty : now.batch ≡ [] = w.batch-is ∙ w.clear.ensures in
          let b = before.batched in
          rw (w.writer-is, empty, w.sent-is) (Batched-sent _ _ _ _ _ _ _ _ _ b w.as_slice.ensures
          (w.in_ok-sent.ensures.bytes (contents c.args.writer.now.inner) b.done b.written))
      | else-len w ↦
          rw (w.writer-is, w.batch-is, w.sent-is) before.batched
    ] in
    record {
      none = none;
      batched = Batched-line _ _ _ _ _ _ _ c.min.result batched c.min.ensures c.push_line.ensures;
    }

pub returns-in_err-write_on-clause-err : goal.returns-in_err-write_on-clause-err
returns-in_err-write_on-clause-err g c =
    let p = err_from_is_err_and c.from_residual-in_err-write_on.result
    c.from_residual-in_err-write_on.ensures.1 in
    let b = c.loop-index.invariant.batched in
    rw p.1 (rw p.2 (Batched-failed _ _ _ _ _ _ _ _ _ b (omega (arith, c.div_ceil-index-end.ensures))
    c.as_slice-2.ensures
    (c.in_err-write_on.ensures.bytes (g.W.Write.contents c.args.writer.now.inner) b.done
    b.written)))

pub returns-clause-ok : goal.returns-clause-ok
returns-clause-ok g c =
    let b = c.loop-index.invariant.batched in
    Batched-all _ _ _ _ _ _ c.in_ok-write_on.field-0 _ _ b
    (omega (arith, c.div_ceil-index-end.ensures)) c.as_slice-2.ensures
    (c.in_ok-write_on.ensures.bytes (g.W.Write.contents c.args.writer.now.inner) b.done b.written)
