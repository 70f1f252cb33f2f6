use Rattle.std.proofs.Common.{◌≡◌, ◌∷◌, ◌++◌, ◌∙◌, [], ap, refl, rules, sym, subst}
use Rattle.std.specs.Prelude.{OnOk}
use Rattle.std.proofs.lemmas.Result.{on_ok_weaker}
use Rattle.nx_envelope.specs.declared.letter.Letter.{Letter}
use Rattle.nx_memory.specs.Selection.{Refused}
use Rattle.nx_copies.specs.Events as events
use Rattle.nx_copies.specs.Events.{refused_after}
use Rattle.nx_receiver.specs.Commands.{said}
use Rattle.nx_receiver.specs.Receiver.{Receiving, Stands}
use Rattle.nx_receiver.specs.declared.command.Command.{Command}
use Rattle.nx_receiver.specs.declared.receiver.Receiver.TheInside.{Inside}
use Rattle.nx_copies.specs.hearing.CopyTaker.{hearer_of}
use Rattle.nx_receiver.proofs.lemmas.receiver.Events.{stands_after, a_command}
use Rattle.nx_receiver.proofs.receiver.Receiver.command.Goals as goal
use Rattle.nx_receiver.proofs.receiver.Receiver.command.Goals.{in-RefuseStation, in-AcceptStation}
use Rattle.nx_receiver.proofs.receiver.Receiver.command.Goals.{in-AcceptSubject}

pub returns-clause-stands : goal.returns-clause-stands
returns-clause-stands g c start history log stands =
    let content = g.M.Recall.content in
    let before = c.self.inside in
    let old : Receiving _ = record {
      hearer = hearer_of before.synchroniser before.taker;
      memory = before.memory;
    } in
    let selecting : Refused → Inside g.row.M.Denot =
    λ refused. record before { taker = record before.taker { selection = refused } } in
    let done : Command Letter → Inside g.row.M.Denot =
    λ command. selecting (refused_after before.taker.selection (said command)) in
    let change : c.match-command.self-inside ≡ done c.args.command =
    elim c.match-command.branch [
      | in-RefuseStation w ↦
          w.self-inside-is ∙ ap selecting w.refuse_station.ensures.refused
          ∙ ap done (sym w.in-RefuseStation.is)
      | in-AcceptStation w ↦
          w.self-inside-is ∙ ap selecting w.accept_station.ensures.accepted
          ∙ ap done (sym w.in-AcceptStation.is)
      | in-AcceptSubject w ↦
          w.self-inside-is ∙ ap selecting w.accept_subject.ensures.accepted
          ∙ ap done (sym w.in-AcceptSubject.is)
    ] in
    let event = events.command (said c.args.command) in
    subst (λ (i : Inside g.row.M.Denot). Stands content start (record {
      hearer = hearer_of i.synchroniser i.taker;
      memory = i.memory;
    }) (history ++ event ∷ []) log) (sym change)
    (stands_after content old _ event a_command refl start history log
    (subst (λ r. Stands content start r history log) (sym c.self.view_is) stands))

pub returns-in-RefuseSubject-clause-stands : goal.returns-in-RefuseSubject-clause-stands
returns-in-RefuseSubject-clause-stands g c =
    let old = hearer_of c.self.inside.synchroniser c.self.inside.taker in
    let changed : OnOk c.refuse_subject.result
    (c.refuse_subject.new.self ≡ refused_after old.refused (said c.args.command)) = search rules in
    on_ok_weaker c.refuse_subject.result
    (λ change start history log stands. stands_after _ _ _ _ a_command
    (ap (λ refused. record old { refused = refused }) change) start history log
    (subst (λ r. Stands g.M.Recall.content start r history log) (sym c.self.view_is) stands))
    changed
