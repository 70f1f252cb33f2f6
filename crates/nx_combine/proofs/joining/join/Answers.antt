use Rattle.std.proofs.Common.{sym, ap, ◌∙◌, arith, get_or}
use Rattle.nx_combine.proofs.lemmas.Joined.{joined-nil, joined-step-within, joined-step-behind}
use Rattle.nx_combine.proofs.joining.join.Goals as goal
use Rattle.nx_combine.proofs.joining.join.Goals.{then-index-len, else-index-len}

pub loop-index-init : goal.loop-index-init
loop-index-init c = sym (joined-nil c.args.family.now.items)

pub loop-index-preserved : goal.loop-index-preserved
loop-index-preserved c =
    elim c.if-index-len.branch [
      | then-index-len w ↦
          let step = joined-step-within c.args.family.now.items c.args.copy.now
          c.loop-index.family.items c.loop-index.index w.index-deref-index.result
          c.index-copy-index.result c.loop-index.invariant (omega arith) (omega arith)
          (w.index-deref-index.is ∙ ap (λ l. get_or l c.loop-index.index w.index-deref-index.result)
          w.deref.ensures.0) c.index-copy-index.is in
          rw (w.family-is, w.deref_mut.ensures.value, w.join.ensures) step
      | else-index-len w ↦
          let step = joined-step-behind c.args.family.now.items c.args.copy.now
          c.loop-index.family.items c.loop-index.index c.index-copy-index.result
          c.loop-index.invariant (omega arith) (omega arith) c.index-copy-index.is in
          rw (w.family-is, w.push.ensures.items) step
    ]
