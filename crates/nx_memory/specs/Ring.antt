-- What a memory with a ring and a table holds.
use Rattle.std.specs.Prelude.{ℕ, List, Option}
use Rattle.std.specs.Global.{Vec}
use Rattle.nx_memory.specs.declared.memories.entry.MemoryEntry.{MemoryEntry}

-- its content, and the table that goes with it, as it lies in memory
pub record RingMemory : Type 0 where
  pub content : List MemoryEntry
  pub table : Vec (Option ℕ)
