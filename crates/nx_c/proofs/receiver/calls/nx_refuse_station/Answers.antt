use Rattle.std.proofs.Common.{◌∙◌, ap, Some, sym}
use Rattle.nx_copies.specs.Events as events
use Rattle.nx_receiver.specs.declared.command.Command.TheVariants.{RefuseStation}
use Rattle.nx_handle.specs.Selecting.{AnswersSelecting, command_status}
use Rattle.nx_c.proofs.lemmas.Answers.{answers-kept}
use Rattle.nx_c.proofs.receiver.calls.nx_refuse_station.Goals as goal

pub returns : goal.returns
returns c =
    let old = c.args.receiver.now.value in let new = c.hold.new.self.value in
    let was = c.deref_mut.result.now in let after = c.select-status.new.self in
    let had = c.in-Some.ensures.opened ∙ ap Some (sym c.deref_mut.ensures.value) in
    let asked = command_status c.args.channel 3 (RefuseStation c.args.station) in
    let one = events.refuse_station c.args.station in
    answers-kept (λ P kind old new. AnswersSelecting kind asked one c.args.channel old new
    c.select-status.result)
    old new was after had c.select-status.ensures c.hold.ensures
