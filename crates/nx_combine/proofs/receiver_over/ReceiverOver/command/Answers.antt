use Rattle.std.proofs.Common.{◌≡◌, ◌∷◌, ◌++◌, ◌∙◌, [], ap, refl, rules, sym, subst}
use Rattle.std.specs.Prelude.{OnOk}
use Rattle.std.proofs.lemmas.Result.{on_ok_weaker}
use Rattle.nx_envelope.specs.declared.letter.Letter.{Letter}
use Rattle.nx_memory.specs.Selection.{Refused}
use Rattle.nx_copies.specs.Events as events
use Rattle.nx_copies.specs.Events.{refused_after}
use Rattle.nx_receiver.specs.Commands.{said}
use Rattle.nx_receiver.specs.declared.command.Command.{Command}
use Rattle.nx_receiver.proofs.lemmas.receiver.Events.{a_command}
use Rattle.nx_combine.specs.CombinedReceiver.{CombiningReceiver, StandsAfterAllHolding, receiver_in}
use Rattle.nx_combine.specs.Judging.{combiner_of}
use Rattle.nx_combine.specs.declared.receiver_over.ReceiverOver.TheInside.{Inside}
use Rattle.nx_combine.proofs.lemmas.TogetherEvents.{together_after}
use Rattle.nx_combine.proofs.receiver_over.ReceiverOver.command.Goals as goal
use Rattle.nx_combine.proofs.receiver_over.ReceiverOver.command.Goals.{in-RefuseStation}
use Rattle.nx_combine.proofs.receiver_over.ReceiverOver.command.Goals.{in-AcceptStation}
use Rattle.nx_combine.proofs.receiver_over.ReceiverOver.command.Goals.{in-AcceptSubject}

pub returns-clause-stands : goal.returns-clause-stands
returns-clause-stands g c places start history log stands =
    let content = g.M.Recall.content in
    let held = g.S.HoldsFamilies.held in
    let most = g.S.HoldsFamilies.most places in
    let before = c.self.inside in
    let old : CombiningReceiver _ = record {
      synchroniser = before.synchroniser;
      taker = before.taker;
      combiner = combiner_of (held before.combiner.store places) before.combiner.finder;
      is_given = before.is_given;
      sendings = before.sendings;
      memory = before.memory;
    } in
    let selecting : Refused → Inside _ _ _ =
    λ refused. record before {
      taker = record before.taker {
        copies = record before.taker.copies { selection = refused };
      };
    } in
    let done : Command Letter → Inside _ _ _ =
    λ command. selecting (refused_after before.taker.copies.selection (said command)) in
    let change : c.match-command.self-inside ≡ done c.args.command =
    elim c.match-command.branch [
      | in-RefuseStation w ↦
          w.self-inside-is ∙ ap selecting w.refuse_station.ensures.refused
          ∙ ap done (sym w.in-RefuseStation.is)
      | in-AcceptStation w ↦
          w.self-inside-is ∙ ap selecting w.accept_station.ensures.accepted
          ∙ ap done (sym w.in-AcceptStation.is)
      | in-AcceptSubject w ↦
          w.self-inside-is ∙ ap selecting w.accept_subject.ensures.accepted
          ∙ ap done (sym w.in-AcceptSubject.is)
    ] in
    let event = events.command (said c.args.command) in
    subst (λ (i : Inside _ _ _). StandsAfterAllHolding most content start (record {
      synchroniser = i.synchroniser;
      taker = i.taker;
      combiner = combiner_of (held i.combiner.store places) i.combiner.finder;
      is_given = i.is_given;
      sendings = i.sendings;
      memory = i.memory;
    }) (history ++ event ∷ []) log) (sym change)
    (together_after most content old _ event a_command refl start history log
    (subst (λ r. StandsAfterAllHolding most content start (receiver_in held r places) history log)
    (sym c.self.view_is) stands))

pub returns-in-RefuseSubject-clause-stands : goal.returns-in-RefuseSubject-clause-stands
returns-in-RefuseSubject-clause-stands g c =
    let before = c.self.inside in
    let refused = before.taker.copies.selection in
    let changed : OnOk c.refuse_subject.result
    (c.refuse_subject.new.self ≡ refused_after refused (said c.args.command)) = search rules in
    on_ok_weaker c.refuse_subject.result
    (λ change places start history log stands.
    let content = g.M.Recall.content in
    let held = g.S.HoldsFamilies.held in
    let most = g.S.HoldsFamilies.most places in
    let old : CombiningReceiver _ = record {
      synchroniser = before.synchroniser;
      taker = before.taker;
      combiner = combiner_of (held before.combiner.store places) before.combiner.finder;
      is_given = before.is_given;
      sendings = before.sendings;
      memory = before.memory;
    } in
    together_after most content old
    (record { moment = before.taker.copies.moment; refused = c.refuse_subject.new.self })
    (events.command (said c.args.command)) a_command
    (ap (λ (r : Refused). record { moment = before.taker.copies.moment; refused = r }) change)
    start history log
    (subst (λ r. StandsAfterAllHolding most content start (receiver_in held r places) history log)
    (sym c.self.view_is) stands))
    changed
