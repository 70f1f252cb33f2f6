use Rattle.std.proofs.Common.{◌≡◌}
use Rattle.nx_fec.proofs.lemmas.devices.WritingLaws.{Batched}
use Rattle.nx_fec.proofs.devices.writing.write_bits.Given as goal

abbrev pub invariant-loop-index : goal.invariant-loop-index
invariant-loop-index g l = record {
  none : l.writer.failures ≡ 0;
  batched : Batched (g.W.Write.contents l.initial.writer.inner) (g.W.Write.contents l.writer.inner)
      l.bits l.index l.sent l.batch;
}
