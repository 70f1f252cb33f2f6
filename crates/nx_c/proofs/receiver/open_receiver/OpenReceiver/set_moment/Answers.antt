use Rattle.std.proofs.Common.{◌∙◌, ap, drop, length, sym}
use Rattle.nx_handle.specs.Opening.{AnswersMoment}
use Rattle.nx_handle.specs.Places.{all_hear}
use Rattle.nx_c.specs.declared.receiver.open_receiver.OpenReceiver.TheVariants.{Plain, Combining}
use Rattle.nx_c.proofs.lemmas.Answers.{answers-combining, answers-plain}
use Rattle.nx_c.proofs.receiver.open_receiver.OpenReceiver.set_moment.Goals as goal

pub returns-in-Plain : goal.returns-in-Plain
returns-in-Plain c =
    let lent = c.deref_mut.ensures in let all = c.three.inside.places.items in
    let now = c.set_moment.new.places in
    answers-plain (λ P kind old new. AnswersMoment kind c.args.moment old new c.set_moment.result
    (all_hear kind old)) c.args.self.now c.three.inside.places.len c.deref_mut.result.now now
    (drop (length now) all) (c.in-Plain.is ∙ ap Plain (sym (lent.value ∙ c.three.view_is)))
    (c.set_moment.ensures.channels ∙ lent.len) c.set_moment.ensures.answers

pub returns-in-Combining : goal.returns-in-Combining
returns-in-Combining c =
    let lent = c.deref_mut-in-Combining.ensures in
    let all = c.three-in-Combining.inside.places.items in
    let now = c.set_moment-in-Combining.new.places in
    answers-combining (λ P kind old new. AnswersMoment kind c.args.moment old new
    c.set_moment-in-Combining.result (all_hear kind old)) c.args.self.now
    c.three-in-Combining.inside.places.len c.deref_mut-in-Combining.result.now now
    (drop (length now) all)
    (c.in-Combining.is ∙ ap Combining (sym (lent.value ∙ c.three-in-Combining.view_is)))
    (c.set_moment-in-Combining.ensures.channels ∙ lent.len)
    c.set_moment-in-Combining.ensures.answers
