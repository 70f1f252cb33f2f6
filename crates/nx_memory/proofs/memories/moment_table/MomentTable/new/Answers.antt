use Rattle.nx_memory.proofs.lemmas.Tables.{none_from}
use Rattle.nx_memory.proofs.memories.moment_table.MomentTable.new.Goals as goal

pub returns : goal.returns
returns c = c.in_ok-vec.ensures.items_if_clones_equal (none_from _ (λ n clone. clone))
