use Rattle.std.proofs.Common.{Some, subst, sym}
use Rattle.nx_receiver.specs.Receiver.{Receiving}
use Rattle.nx_copies.specs.declared.copy_taker.Over.TheVariants as over
use Rattle.nx_receiver.specs.private.Awaiting.{Awaits}
use Rattle.nx_copies.specs.hearing.CopyTaker.{hearer_of}
use Rattle.nx_receiver.proofs.lemmas.receiver.Finishing.{IsJudged, both_finished}
use Rattle.nx_receiver.proofs.lemmas.receiver.Finishing.{copy_finished, lock_finished}
use Rattle.nx_receiver.proofs.receiver.Receiver.finish.Goals as goal

pub returns-in-Copy-clause-stands : goal.returns-in-Copy-clause-stands
returns-in-Copy-clause-stands g c start history log awaits =
    let content = g.M.Recall.content in
    let judged = c.judge_ready.ensures in
    copy_finished content start history log c.args.self.now c.judge_ready.new.self
    c.judge_ready.result
    (record { printed = judged.printed; entered = judged.entered; hearer = judged.hearer })
    (subst (λ o. Awaits content start c.args.self.now history log (Some o)) c.in-Copy.is awaits)

pub returns-in-Lock-clause-stands : goal.returns-in-Lock-clause-stands
returns-in-Lock-clause-stands g c start history log awaits =
    let content = g.M.Recall.content in
    let inside = c.self.inside in
    let old : Receiving _ = record {
      hearer = hearer_of inside.synchroniser inside.taker;
      memory = inside.memory;
    } in
    let lock = subst (λ o. Awaits content start c.args.self.now history log (Some o)) c.in-Lock.is
    awaits in
    let judged = c.judge_ready-in-Lock.ensures in
    lock_finished content start history log old c.judge_ready-in-Lock.new.self c.close.new.self
    c.judge_ready-in-Lock.result (record { fresh = c.close.ensures.as_new }) c.close.ensures.closes
    (record { printed = judged.printed; entered = judged.entered; hearer = judged.hearer })
    (subst (λ r. Awaits content start r history log (Some over.Lock)) (sym c.self.view_is) lock)

pub returns-in-CopyAndLock-clause-stands : goal.returns-in-CopyAndLock-clause-stands
returns-in-CopyAndLock-clause-stands g c start history log awaits =
    let content = g.M.Recall.content in
    let inside = c.self-in-CopyAndLock.inside in
    let new : Receiving _ = record {
      hearer = hearer_of inside.synchroniser inside.taker;
      memory = inside.memory;
    } in
    let both = subst (λ o. Awaits content start c.args.self.now history log (Some o))
    c.in-CopyAndLock.is awaits in
    let judged = c.judge_ready-head.ensures in
    let is = subst (λ r. IsJudged content c.args.self.now r c.judge_ready-head.result)
    (sym c.self-in-CopyAndLock.view_is)
    (record { printed = judged.printed; entered = judged.entered; hearer = judged.hearer }) in
    both_finished content start history log c.args.self.now new c.restart.new.self
    c.judge_ready-head.result (record { fresh = c.restart.ensures.as_new }) c.restart.ensures.none
    c.restart.ensures.text is both
