use Rattle.std.proofs.Common.{◌≡◌, ◌+◌, None, arith, rules, subst}
use Rattle.nx_code.specs.Packed.{packed_part}
use Rattle.nx_copies.proofs.lemmas.WordLoop.{part_behind, room_behind}
use Rattle.nx_copies.proofs.word_loop.hear_many.Goals as goal

pub loop-heard-init : goal.loop-heard-init
loop-heard-init g c = record {
  within = omega arith;
  hears = g.met.T.WordTaker.none c.args.synchroniser.now c.args.taker.now;
}

pub hear_some-some-requires-clause-room : goal.hear_some-some-requires-clause-room
hear_some-some-requires-clause-room g c =
    room_behind g.T.WordTaker.hears g.T.WordTaker.has_room g.met.T.WordTaker.room
    c.args.synchroniser.now c.loop-heard.synchroniser c.args.taker.now c.loop-heard.taker
    c.args.numbers.now c.args.from c.args.count c.loop-heard.heard c.requires.part.room
    c.loop-heard.invariant.within c.loop-heard.invariant.hears c.requires.room

pub returns-then-is_some-clause-hears : goal.returns-then-is_some-clause-hears
returns-then-is_some-clause-hears g c =
    let some = c.hear_some-some in
    part_behind g.T.WordTaker.hears g.met.T.WordTaker.both c.args.synchroniser.now
    c.loop-heard.synchroniser some.new.synchroniser c.args.taker.now c.loop-heard.taker
    some.new.taker c.args.numbers.now c.args.from c.args.count c.loop-heard.heard some.result
    c.loop-heard-test.true c.loop-heard.invariant.hears some.ensures

pub loop-heard-preserved : goal.loop-heard-preserved
loop-heard-preserved g c =
    let some = c.hear_some-some in
    let none : some.result.1 ≡ None = search rules in
    let heard = part_behind g.T.WordTaker.hears g.met.T.WordTaker.both c.args.synchroniser.now
    c.loop-heard.synchroniser some.new.synchroniser c.args.taker.now c.loop-heard.taker
    some.new.taker c.args.numbers.now c.args.from c.args.count c.loop-heard.heard some.result
    c.loop-heard-test.true c.loop-heard.invariant.hears some.ensures in
    record {
      within = heard.within;
      hears = subst (g.T.WordTaker.hears c.args.synchroniser.now c.args.taker.now
          (packed_part c.args.numbers.now c.args.from (c.loop-heard.heard + some.result.0))
          some.new.synchroniser some.new.taker) none heard.hears;
    }
