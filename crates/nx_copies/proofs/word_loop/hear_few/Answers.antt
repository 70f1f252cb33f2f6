use Rattle.std.proofs.Common.{◌≡◌, ◌+◌, ◌-◌, None, arith, rules, subst}
use Rattle.nx_code.specs.Packed.{packed_part}
use Rattle.nx_copies.proofs.lemmas.WordLoop.{part_behind, part_taken, room_behind, room_for_fewer}
use Rattle.nx_copies.proofs.word_loop.hear_few.Goals as goal

pub loop-heard-init : goal.loop-heard-init
loop-heard-init g c = record {
  within = omega arith;
  hears = g.met.T.WordTaker.none c.args.synchroniser.now c.args.taker.now;
}

pub take_step-over-requires-clause-room : goal.take_step-over-requires-clause-room
take_step-over-requires-clause-room g c =
    let laws = g.met.T.WordTaker in
    let hears = g.T.WordTaker.hears in
    let has_room = g.T.WordTaker.has_room in
    let at = c.loop-heard.heard in
    let part = c.push_some-part in
    room_for_fewer hears has_room laws.room laws.none c.args.synchroniser.now c.loop-heard.taker
    (c.args.count - at) part.result.0 part.ensures.within
    (room_behind hears has_room laws.room c.args.synchroniser.now c.loop-heard.synchroniser
    c.args.taker.now c.loop-heard.taker c.args.numbers.now c.args.from c.args.count at
    c.requires.part.room c.loop-heard.invariant.within c.loop-heard.invariant.hears
    c.requires.room)

pub returns-then-is_some-clause-hears : goal.returns-then-is_some-clause-hears
returns-then-is_some-clause-hears g c =
    let hears = g.T.WordTaker.hears in
    let part = c.push_some-part in
    let take = c.take_step-over in
    let at = c.loop-heard.heard in
    part_behind hears g.met.T.WordTaker.both c.args.synchroniser.now c.loop-heard.synchroniser
    part.new.self c.args.taker.now c.loop-heard.taker take.new.self c.args.numbers.now c.args.from
    c.args.count at (part.result.0, take.result) c.loop-heard-test.true
    c.loop-heard.invariant.hears
    (part_taken hears c.loop-heard.synchroniser part.new.self c.loop-heard.taker take.new.self
    c.args.numbers.now (c.args.from + at) (c.args.count - at) part.result take.result
    (omega (arith, c.requires.part.room, c.loop-heard.invariant.within)) part.ensures.within
    part.ensures.some take.ensures.hears part.ensures.brings)

pub loop-heard-preserved : goal.loop-heard-preserved
loop-heard-preserved g c =
    let hears = g.T.WordTaker.hears in
    let part = c.push_some-part in
    let take = c.take_step-over in
    let at = c.loop-heard.heard in
    let none : take.result ≡ None = search rules in
    let heard = part_behind hears g.met.T.WordTaker.both c.args.synchroniser.now
    c.loop-heard.synchroniser part.new.self c.args.taker.now c.loop-heard.taker take.new.self
    c.args.numbers.now c.args.from c.args.count at (part.result.0, take.result)
    c.loop-heard-test.true c.loop-heard.invariant.hears
    (part_taken hears c.loop-heard.synchroniser part.new.self c.loop-heard.taker take.new.self
    c.args.numbers.now (c.args.from + at) (c.args.count - at) part.result take.result
    (omega (arith, c.requires.part.room, c.loop-heard.invariant.within)) part.ensures.within
    part.ensures.some take.ensures.hears part.ensures.brings) in
    record {
      within = heard.within;
      hears = subst (hears c.args.synchroniser.now c.args.taker.now
          (packed_part c.args.numbers.now c.args.from (at + part.result.0)) part.new.self
          take.new.self) none heard.hears;
    }
