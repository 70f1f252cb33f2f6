use Rattle.std.proofs.Common.{refl, sym, subst}
use Rattle.nx_receiver.proofs.lemmas.receiver.Events.{a_moment}
use Rattle.nx_combine.specs.CombinedReceiver.{CombiningReceiver, StandsAfterAllHolding, receiver_in}
use Rattle.nx_combine.specs.Judging.{combiner_of}
use Rattle.nx_combine.proofs.lemmas.TogetherEvents.{together_after}
use Rattle.nx_combine.proofs.receiver_over.ReceiverOver.set_moment.Goals as goal

pub returns-clause-stands : goal.returns-clause-stands
returns-clause-stands g c places start history log stands =
    let content = g.M.Recall.content in
    let held = g.S.HoldsFamilies.held in
    let most = g.S.HoldsFamilies.most places in
    let i = c.self.inside in
    let old : CombiningReceiver _ = record {
      synchroniser = i.synchroniser;
      taker = i.taker;
      combiner = combiner_of (held i.combiner.store places) i.combiner.finder;
      is_given = i.is_given;
      sendings = i.sendings;
      memory = i.memory;
    } in
    together_after most content old _ _ a_moment refl start history log
    (subst (λ r. StandsAfterAllHolding most content start (receiver_in held r places) history log)
    (sym c.self.view_is) stands)
