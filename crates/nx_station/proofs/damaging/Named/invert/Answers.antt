use Rattle.std.proofs.Common.{◌+◌, map, ap, ◌∙◌, arith}
use Rattle.nx_fec.specs.air_files.AirFile.{element_digit}
use Rattle.nx_station.proofs.lemmas.damage.Named.{count-more, stride-few, walk-ends, walk-next}
use Rattle.nx_station.proofs.damaging.Named.invert.Goals as goal

pub loop-at-preserved : goal.loop-at-preserved
loop-at-preserved c =
    let on = c.loop-at.invariant.walk in
    record {
      walk = walk-next c.args.self c.loop-at.at c.requires.stride on;
      few = let few = stride-few c.args.self.stride c.requires.stride in
          omega (arith, c.loop-at.invariant.few, few.0);
      digits = λ damage place bits are e. c.invert_at.ensures damage place
          (c.loop-at.at + c.args.self.stride) bits on (omega arith) are
          (c.loop-at.invariant.digits damage place bits are e);
      counted = λ damage place bits are e. count-more damage place c.args.self bits c.loop-at.at
          c.loop-at.count c.args.digits.now c.requires.stride are on c.loop-at-test.true
          c.requires.end e (c.loop-at.invariant.counted damage place bits are e);
    }

pub returns-clause-digits : goal.returns-clause-digits
returns-clause-digits c damage place bits are e =
    c.loop-at.invariant.digits damage place bits are e
    ∙ ap (map element_digit) (walk-ends damage place c.args.self bits c.loop-at.at are
    c.loop-at-test.false).0

pub returns-clause-count : goal.returns-clause-count
returns-clause-count c damage place bits are e =
    c.loop-at.invariant.counted damage place bits are e
    ∙ (walk-ends damage place c.args.self bits c.loop-at.at are c.loop-at-test.false).1
