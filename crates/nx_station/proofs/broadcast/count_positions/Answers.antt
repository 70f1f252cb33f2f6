use Rattle.std.proofs.Common.{◌++◌, ◌∷◌, [], arith}
use Rattle.nx_station.proofs.lemmas.broadcasts.Broadcast.{total-push, more-spelled, more-sound, all-sound}
use Rattle.nx_station.proofs.lemmas.broadcasts.Broadcast.{counted-all}
use Rattle.nx_station.proofs.broadcast.count_positions.Goals as goal

pub loop-message-preserved : goal.loop-message-preserved
loop-message-preserved c =
    let before = c.loop-message.invariant in
    let more = c.count_combs.ensures.spelled in
    let ss = before.counted.0 in
    record {
      counted = (
        ss ++ (more.0 ∷ []),
        more-spelled c.args.messages.now c.loop-message.message-index c.message-item.result ss
            more.0 c.loop-message-test.true c.message-item.is before.counted.1 more.1,
        omega (arith, before.counted.2, more.2, c.from.ensures, total-push ss more.0),
      );
      sound = more-sound c.args.messages.now c.loop-message.message-index c.message-item.result
          c.loop-message-test.true c.message-item.is before.sound c.count_combs.ensures.sound;
      few = omega (arith, before.few, c.count_combs.ensures.few, c.from.ensures);
    }

pub returns-clause-sound : goal.returns-clause-sound
returns-clause-sound c =
    all-sound c.args.messages.now c.loop-message.message-index c.loop-message-test.false
    c.loop-message.invariant.sound

pub returns-clause-count : goal.returns-clause-count
returns-clause-count c =
    let all = c.loop-message.invariant.counted in
    counted-all c.args.messages.now c.loop-message.message-index c.loop-message.count all.0
    c.requires c.loop-message-test.false all.1 all.2
