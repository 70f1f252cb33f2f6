use Rattle.std.proofs.Common.{◌≡◌, ◌∙◌, ap₂, false, refl, sym}
use Rattle.nx_copies.specs.Events.{first_setting}
use Rattle.nx_copies.specs.hearing.CopyHearing.{in_force}
use Rattle.nx_combine.specs.CombinedReceiver.{CombiningReceiver, hearer_in}
use Rattle.nx_combine.specs.Judging.{combiner_of}
use Rattle.nx_combine.proofs.lemmas.Judged.{stands_first}
use Rattle.nx_combine.proofs.lemmas.JudgedOn.{begins_together}
use Rattle.nx_combine.proofs.receiver_over.ReceiverOver.beginning.Goals as goal

pub returns-clause-stands : goal.returns-clause-stands
returns-clause-stands g c = λ places start families printed entries moment selection.
    let content = g.M.Recall.content in
    let held = g.S.HoldsFamilies.held in
    let most = g.S.HoldsFamilies.most places in
    let taker = c.new-taker in
    let here = held c.args.store places in
    let receiver : CombiningReceiver _ = record {
      synchroniser = c.hunting.result;
      taker = taker.result;
      combiner = combiner_of here c.new.result;
      is_given = false;
      sendings = 0;
      memory = c.args.memory;
    } in
    let force : in_force (hearer_in receiver) ≡ first_setting start =
    ap₂ (λ m r. record { moment = m; refused = r }) (taker.ensures.moment ∙ sym moment)
    (taker.ensures.selection ∙ sym selection) in
    begins_together most content start receiver
    (taker.ensures.stands (first_setting start) c.hunting.result c.hunting.ensures.stands) force
    (stands_first most here.families here.printed c.new.result families printed) refl entries
    c.newest-newest.ensures.bounded
