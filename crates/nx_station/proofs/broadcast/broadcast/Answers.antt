use Rattle.std.proofs.Common.{◌++◌, ◌∷◌, [], ap, ◌∙◌, map}
use Rattle.nx_fec.specs.emissions.Emission.{sent_position}
use Rattle.nx_station.specs.Broadcast.{phasing_and_message, first_phasing}
use Rattle.nx_station.proofs.lemmas.broadcasts.Broadcast.{empty-broadcast, more-spelled, others-more}
use Rattle.nx_station.proofs.lemmas.broadcasts.Broadcast.{broadcast-of}
use Rattle.nx_station.proofs.broadcast.broadcast.Goals as goal

pub returns-in_default : goal.returns-in_default
returns-in_default c = empty-broadcast c.args.messages.now _ c.in_default.ensures.cases
    (ap (map sent_position) c.new-positions.ensures.items)

pub loop-message-preserved : goal.loop-message-preserved
loop-message-preserved c =
    let before = c.loop-message.invariant in
    let more = c.in_ok-push_message-2.ensures in (
      before.0 ++ (more.0 ∷ []),
      more-spelled c.in-Some.others.now c.loop-message.message-index c.message-item.result before.0
          more.0 c.loop-message-test.true c.message-item.is before.1 more.1,
      others-more _ _ _ before.0 more.0 before.2 more.2,
    )

pub returns : goal.returns
returns c =
    let first = c.in_ok-push_message.ensures in
    let parts = rw c.in-Some.is at c.split_first.ensures.cases in
    let all = c.loop-message.invariant in
    broadcast-of c.args.messages.now c.in-Some.first.now c.in-Some.others.now
    c.loop-message.message-index first.0 all.0 _ _ _ parts.0 first.1
    (first.2 ∙ ap (λ l. map sent_position l ++ phasing_and_message first_phasing first.0)
    c.new-positions.ensures.items) c.loop-message-test.false all.1 all.2
    c.in_ok-push_many.ensures
