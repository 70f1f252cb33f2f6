use Rattle.std.proofs.Common.{Some, ap, subst, sym}
use Rattle.nx_copies.specs.Events.{Setting}
use Rattle.nx_copies.specs.declared.copy_taker.Over.TheVariants as over
use Rattle.nx_combine.specs.CombinedReceiver.{AwaitsAfterAllHolding, CombiningReceiver}
use Rattle.nx_combine.specs.CombinedReceiver.{receiver_in, text_in, text_over}
use Rattle.nx_combine.specs.Judging.{combiner_of}
use Rattle.nx_combine.specs.declared.taker.CombinedTaker.{CombinedTaker}
use Rattle.nx_combine.proofs.lemmas.Counted.{counted_head, each_some}
use Rattle.nx_combine.proofs.lemmas.TogetherFinish.{IsJudgedReady, both_done, copy_done, lock_done}
use Rattle.nx_combine.proofs.receiver_over.ReceiverOver.finish.Goals as goal

abbrev in_force_of : CombinedTaker → Setting
in_force_of taker =
    record { moment = taker.copies.moment; refused = taker.copies.selection }

pub returns-in-Copy-clause-stands : goal.returns-in-Copy-clause-stands
returns-in-Copy-clause-stands g c start history log awaits =
    let content = g.M.Recall.content in
    let held = g.S.HoldsFamilies.held in
    let places = c.args.places.now in
    let most = g.S.HoldsFamilies.most places in
    let now = receiver_in held c.args.self.now places in
    let judged = c.judge_ready.ensures in
    copy_done most content start history log now
    (receiver_in held c.judge_ready.new.self c.judge_ready.new.places) c.judge_ready.result
    (record {
      none = judged.none;
      judged = judged.judged;
      taker = judged.taker;
      synchroniser = judged.synchroniser;
    })
    (subst (λ o. AwaitsAfterAllHolding most content start now history log (Some o)) c.in-Copy.is
    awaits)

pub returns-in-Lock-clause-stands : goal.returns-in-Lock-clause-stands
returns-in-Lock-clause-stands g c start history log awaits =
    let content = g.M.Recall.content in
    let held = g.S.HoldsFamilies.held in
    let places = c.args.places.now in
    let most = g.S.HoldsFamilies.most places in
    let i = c.self.inside in
    let old : CombiningReceiver _ = record {
      synchroniser = i.synchroniser;
      taker = i.taker;
      combiner = combiner_of (held i.combiner.store places) i.combiner.finder;
      is_given = i.is_given;
      sendings = i.sendings;
      memory = i.memory;
    } in
    let lock = subst (λ o. AwaitsAfterAllHolding most content start
    (receiver_in held c.args.self.now places) history log (Some o)) c.in-Lock.is awaits in
    let judged = c.judge_ready-in-Lock.ensures in
    lock_done most content start history log old
    (receiver_in held c.judge_ready-in-Lock.new.self c.judge_ready-in-Lock.new.places)
    c.close.new.self c.judge_ready-in-Lock.result
    (λ first bits settings copies heard.
    c.close.ensures.lock first i.synchroniser bits settings copies heard)
    (ap in_force_of c.close.ensures.kept)
    (record {
      none = judged.none;
      judged = judged.judged;
      taker = judged.taker;
      synchroniser = judged.synchroniser;
    })
    (subst (λ r. AwaitsAfterAllHolding most content start (receiver_in held r places) history log
    (Some over.Lock)) (sym c.self.view_is) lock)

pub returns-in-CopyAndLock-clause-stands : goal.returns-in-CopyAndLock-clause-stands
returns-in-CopyAndLock-clause-stands g c start history log awaits =
    let content = g.M.Recall.content in
    let held = g.S.HoldsFamilies.held in
    let places = c.args.places.now in
    let most = g.S.HoldsFamilies.most places in
    let now = receiver_in held c.args.self.now places in
    let i = c.self-in-CopyAndLock.inside in
    let after = c.judge_ready-head.new.places in
    let new : CombiningReceiver _ = record {
      synchroniser = i.synchroniser;
      taker = i.taker;
      combiner = combiner_of (held i.combiner.store after) i.combiner.finder;
      is_given = i.is_given;
      sendings = i.sendings;
      memory = i.memory;
    } in
    let both = subst (λ o. AwaitsAfterAllHolding most content start now history log (Some o))
    c.in-CopyAndLock.is awaits in
    let judged = c.judge_ready-head.ensures in
    let is = subst (λ r. IsJudgedReady most content now (receiver_in held r after)
    c.judge_ready-head.result)
    (sym c.self-in-CopyAndLock.view_is)
    (record {
      none = judged.none;
      judged = judged.judged;
      taker = judged.taker;
      synchroniser = judged.synchroniser;
    }) in
    both_done most content start history log now new c.leave_lock.new.self
    c.judge_ready-head.result
    (λ first bits settings copies ready heard.
    c.leave_lock.ensures.stands first i.synchroniser bits settings copies ready heard)
    (ap in_force_of c.leave_lock.ensures.kept)
    c.leave_lock.ensures.text is both

-- the number is that of the entry whose head is answered

pub returns-in-Copy-clause-counted : goal.returns-in-Copy-clause-counted
returns-in-Copy-clause-counted g c =
    each_some c.judge_ready.result (λ head is start history log awaits.
    let held = g.S.HoldsFamilies.held in
    let new = c.judge_ready.new in
    counted_head (g.S.HoldsFamilies.most c.args.places.now) g.M.Recall.content start
    (receiver_in held new.self new.places) history log c.judge_ready.result head
    (text_over new.self) is
    (returns-in-Copy-clause-stands g c start history log awaits))

pub returns-in-Lock-clause-counted : goal.returns-in-Lock-clause-counted
returns-in-Lock-clause-counted g c =
    each_some c.judge_ready-in-Lock.result (λ head is start history log awaits.
    let held = g.S.HoldsFamilies.held in
    let new = c.judge_ready-in-Lock.new in
    counted_head (g.S.HoldsFamilies.most c.args.places.now) g.M.Recall.content start
    (receiver_in held new.self new.places) history log c.judge_ready-in-Lock.result head
    (text_over new.self) is
    (returns-in-Lock-clause-stands g c start history log awaits))

pub returns-in-CopyAndLock-clause-counted : goal.returns-in-CopyAndLock-clause-counted
returns-in-CopyAndLock-clause-counted g c =
    each_some c.judge_ready-head.result (λ head is start history log awaits.
    let held = g.S.HoldsFamilies.held in
    let i = c.self-in-CopyAndLock.inside in
    let after = c.judge_ready-head.new.places in
    let left : CombiningReceiver _ = record {
      synchroniser = i.synchroniser;
      taker = c.leave_lock.new.self;
      combiner = combiner_of (held i.combiner.store after) i.combiner.finder;
      is_given = i.is_given;
      sendings = i.sendings;
      memory = i.memory;
    } in
    counted_head (g.S.HoldsFamilies.most c.args.places.now) g.M.Recall.content start left history
    log c.judge_ready-head.result head (text_in left) is
    (returns-in-CopyAndLock-clause-stands g c start history log awaits))
