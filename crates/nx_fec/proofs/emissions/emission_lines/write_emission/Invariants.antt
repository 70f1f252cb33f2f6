use Rattle.std.proofs.Common.{◌≡◌, map}
use Rattle.nx_fec.specs.emissions.Emission.{bits_of, emission, sent_position}
use Rattle.nx_fec.proofs.lemmas.devices.WritingLaws.{Batched}
use Rattle.nx_fec.proofs.emissions.emission_lines.write_emission.Given as goal

abbrev pub invariant-loop-index : goal.invariant-loop-index
invariant-loop-index g l = record {
  none : l.writer.failures ≡ 0;
  batched : Batched (g.W.Write.contents l.initial.writer.inner) (g.W.Write.contents l.writer.inner)
      (bits_of (emission (map sent_position l.positions))) l.index l.sent l.batch;
}
