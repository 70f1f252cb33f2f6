use Rattle.std.proofs.Common.{ap, sym, ◌∙◌}
use Rattle.nx_live.specs.Answers.{SetsMomentOf}
use Rattle.nx_live.specs.Places.{combining_of, plain_of}
use Rattle.nx_live.specs.declared.handle.NxLive.{NxLive}
use Rattle.nx_live.proofs.lemmas.Answering.{by_combining, by_plain}
use Rattle.nx_live.proofs.calls.nx_live_set_moment.Goals as goal

pub returns-then-combines : goal.returns-then-combines
returns-then-combines c =
    by_combining
    (λ _ kind old new. SetsMomentOf kind c.args.moment old new c.set_moment.result)
    c.args.receiver.now.value c.combining.result.now c.set_moment.new.places
    (sym c.combines.ensures.value ∙ c.if-combines.true)
    (c.combining.ensures.value
    ∙ ap (λ (r : NxLive). combining_of r.value) c.combines.ensures.unchanged)
    (record {
      answers = c.set_moment.ensures.answers;
      channels = c.set_moment.ensures.channels;
      rooms = c.set_moment.ensures.rooms;
    })

pub returns-else-combines : goal.returns-else-combines
returns-else-combines c =
    by_plain
    (λ _ kind old new. SetsMomentOf kind c.args.moment old new c.set_moment-else-combines.result)
    c.args.receiver.now.value c.plain.result.now c.set_moment-else-combines.new.places
    (sym c.combines.ensures.value ∙ c.if-combines.false)
    (c.plain.ensures.value ∙ ap (λ (r : NxLive). plain_of r.value) c.combines.ensures.unchanged)
    (record {
      answers = c.set_moment-else-combines.ensures.answers;
      channels = c.set_moment-else-combines.ensures.channels;
      rooms = c.set_moment-else-combines.ensures.rooms;
    })
