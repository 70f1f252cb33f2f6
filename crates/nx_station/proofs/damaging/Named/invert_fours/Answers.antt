use Rattle.std.proofs.Common.{◌+◌, ◌*◌, map, sym, ap, ◌∙◌, arith}
use Rattle.nx_fec.specs.air_files.AirFile.{element_digit}
use Rattle.nx_station.proofs.lemmas.damage.Named.{count-fours, stride-few, walk-begins, walk-by}
use Rattle.nx_station.proofs.lemmas.damage.Named.{walk-starts}
use Rattle.nx_station.proofs.damaging.Named.invert_fours.Goals as goal

pub loop-at-init : goal.loop-at-init
loop-at-init c = record {
  walk = walk-starts c.args.self c.requires.stride;
  few = omega arith;
  digits = λ damage place bits are e. e
      ∙ ap (map element_digit) (sym (walk-begins damage place c.args.self bits are).0);
  counted = λ damage place bits are e. sym (walk-begins damage place c.args.self bits are).1;
}

pub loop-at-preserved : goal.loop-at-preserved
loop-at-preserved c =
    let at = c.loop-at.at in
    let s = c.args.self.stride in
    let w0 = c.loop-at.invariant.walk in
    let w1 = walk-by c.args.self at (at + s) c.requires.stride w0 (omega arith) in
    let w2 = walk-by c.args.self (at + s) (at + 2 * s) c.requires.stride w1 (omega arith) in
    let w3 = walk-by c.args.self (at + 2 * s) (at + 3 * s) c.requires.stride w2 (omega arith) in
    record {
      walk = walk-by c.args.self (at + 3 * s) (at + 4 * s) c.requires.stride w3 (omega arith);
      few = let few = stride-few s c.requires.stride in
          omega (arith, c.loop-at.invariant.few, few.0);
      digits = λ damage place bits are e.
          c.invert_at-in-loop-at-3.ensures damage place (at + 4 * s) bits w3 (omega arith) are
          (c.invert_at-in-loop-at-2.ensures damage place (at + 3 * s) bits w2 (omega arith) are
          (c.invert_at-in-loop-at.ensures damage place (at + 2 * s) bits w1 (omega arith) are
          (c.invert_at.ensures damage place (at + s) bits w0 (omega arith) are
          (c.loop-at.invariant.digits damage place bits are e))));
      counted = λ damage place bits are e. count-fours damage place c.args.self bits at
          c.loop-at.count c.args.digits.now c.requires.stride are w0
          (omega (arith, c.saturating_sub-fours_end.ensures, c.loop-at-test.true))
          c.requires.end e (c.loop-at.invariant.counted damage place bits are e);
    }
