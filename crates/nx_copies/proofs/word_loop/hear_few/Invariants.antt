use Rattle.std.proofs.Common.{◌-◌, ◌≤◌, None}
use Rattle.nx_code.specs.Packed.{packed_part}
use Rattle.nx_copies.proofs.word_loop.hear_few.Given as goal

abbrev pub invariant-loop-heard : goal.invariant-loop-heard
invariant-loop-heard g l = record {
  within : l.heard ≤ l.count;
  hears : g.T.WordTaker.hears l.fn.synchroniser l.fn.taker (packed_part l.numbers l.from l.heard)
      l.synchroniser l.taker None;
}

abbrev pub decreases-loop-heard : goal.decreases-loop-heard
decreases-loop-heard g l = l.count - l.heard
