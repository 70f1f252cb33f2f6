use Rattle.std.proofs.Common.{◌∙◌, ap, Some, sym}
use Rattle.nx_handle.specs.Opening.{AnswersMoment}
use Rattle.nx_handle.specs.Places.{all_hear}
use Rattle.nx_c.proofs.lemmas.Answers.{answers-kept}
use Rattle.nx_c.proofs.receiver.calls.nx_set_moment.Goals as goal

pub returns : goal.returns
returns c =
    let old = c.args.receiver.now.value in let new = c.hold.new.self.value in
    let was = c.deref_mut.result.now in let after = c.set_moment-status.new.self in
    let had = c.in-Some.ensures.opened ∙ ap Some (sym c.deref_mut.ensures.value) in
    answers-kept (λ P kind old new.
    AnswersMoment kind c.args.moment old new c.set_moment-status.result (all_hear kind old))
    old new was after had c.set_moment-status.ensures c.hold.ensures
