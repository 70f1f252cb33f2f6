use Rattle.std.proofs.Common.{◌∷◌, [], refl, arith}
use Rattle.std.proofs.lemmas.Bool.Decides.{nat_tests}
use Rattle.std.proofs.KnownBytes.{Consumes-trans}
use Rattle.nx_receiver.proofs.air_file_runs.state.read_line.Goals as goal

pub returns-then-is_full : goal.returns-then-is_full
returns-then-is_full g c = record {
  line = c.loop-line.line.items;
  more = c.in-Byte.byte ∷ [];
  part = c.loop-line.invariant.part;
  consumed = Consumes-trans _ _ _ _ _ c.loop-line.invariant.consumed c.in-Byte.ensures.0;
  here = (
    c.in-Byte.byte,
    refl,
    c.in-Byte.byte-test.1,
    grind (
      arith,
      nat_tests,
      c.if-is_full.true,
      c.if-is_full.ensures.value,
    ),
    c.in-Byte.ensures.1,
  );
}
