use Rattle.std.proofs.Common.{◌∙◌, ap, Some, sym}
use Rattle.nx_handle.specs.CallerRoom.{room}
use Rattle.nx_handle.specs.Hearing.{AnswersHearing}
use Rattle.nx_c.proofs.lemmas.Answers.{answers-kept}
use Rattle.nx_c.proofs.receiver.calls.nx_hear.Goals as goal

pub returns : goal.returns
returns c =
    let old = c.args.receiver.now.value in let new = c.hold.new.self.value in
    let was = c.deref_mut.result.now in let after = c.hear-status.new.self in
    let had = c.in-Some.ensures.opened ∙ ap Some (sym c.deref_mut.ensures.value) in
    let log = room c.args.log.now c.hear-status.new.log c.hear-status.new.written in
    answers-kept (λ P kind old new. AnswersHearing kind c.args.channel c.args.elements.now old new
    c.hear-status.new.heard log c.hear-status.result)
    old new was after had c.hear-status.ensures c.hold.ensures
