use Rattle.std.proofs.Common.{subst, sym}
use Rattle.nx_combine.specs.CombinedReceiver.{CombiningReceiver, StandsAfterAllHolding, receiver_in}
use Rattle.nx_combine.specs.Judging.{combiner_of}
use Rattle.nx_combine.proofs.lemmas.Counted.{each_some}
use Rattle.nx_combine.proofs.lemmas.TogetherFinish.{all_counted, all_done}
use Rattle.nx_combine.proofs.receiver_over.ReceiverOver.end.Goals as goal

pub returns-clause-stands : goal.returns-clause-stands
returns-clause-stands g c start history log stands =
    let content = g.M.Recall.content in
    let held = g.S.HoldsFamilies.held in
    let places = c.args.places.now in
    let most = g.S.HoldsFamilies.most places in
    let i = c.self.inside in
    let old : CombiningReceiver _ = record {
      synchroniser = i.synchroniser;
      taker = i.taker;
      combiner = combiner_of (held i.combiner.store places) i.combiner.finder;
      is_given = i.is_given;
      sendings = i.sendings;
      memory = i.memory;
    } in
    let judged = c.judge_ready.ensures in
    all_done most content start history log old
    (receiver_in held c.judge_ready.new.self c.judge_ready.new.places) c.close.new.self
    c.judge_ready.result
    (λ first bits settings copies heard.
    c.close.ensures.all first i.synchroniser bits settings copies heard)
    (record {
      none = judged.none;
      judged = judged.judged;
      taker = judged.taker;
      synchroniser = judged.synchroniser;
    })
    (subst (λ r. StandsAfterAllHolding most content start (receiver_in held r places) history log)
    (sym c.self.view_is) stands)

pub returns-clause-counted : goal.returns-clause-counted
returns-clause-counted g c = each_some c.judge_ready.result (λ head is start history log stands.
    let content = g.M.Recall.content in
    let held = g.S.HoldsFamilies.held in
    let places = c.args.places.now in
    let most = g.S.HoldsFamilies.most places in
    let i = c.self.inside in
    let old : CombiningReceiver _ = record {
      synchroniser = i.synchroniser;
      taker = i.taker;
      combiner = combiner_of (held i.combiner.store places) i.combiner.finder;
      is_given = i.is_given;
      sendings = i.sendings;
      memory = i.memory;
    } in
    let judged = c.judge_ready.ensures in
    all_counted most content start history log old
    (receiver_in held c.judge_ready.new.self c.judge_ready.new.places) c.close.new.self
    c.judge_ready.result head
    (λ first bits settings copies heard.
    c.close.ensures.all first i.synchroniser bits settings copies heard)
    (record {
      none = judged.none;
      judged = judged.judged;
      taker = judged.taker;
      synchroniser = judged.synchroniser;
    })
    is
    (subst (λ r. StandsAfterAllHolding most content start (receiver_in held r places) history log)
    (sym c.self.view_is) stands))
