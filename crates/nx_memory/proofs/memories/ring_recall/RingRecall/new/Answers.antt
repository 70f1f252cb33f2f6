use Rattle.std.proofs.Common.{refl}
use Rattle.nx_memory.proofs.lemmas.Content.{content-nil}
use Rattle.nx_memory.proofs.lemmas.Tables.{table-nil}
use Rattle.nx_memory.proofs.memories.ring_recall.RingRecall.new.Goals as goal

pub invariant_of-result : goal.invariant_of-result
invariant_of-result c = rw c.in_ok-with_capacity.ensures (record {
  capacity = refl;
  content = content-nil;
  table_of = rw c.in_ok-new.ensures table-nil;
})
