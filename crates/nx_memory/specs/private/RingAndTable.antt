-- How a ring of entries and a table of their moments go together.
use Rattle.std.specs.Prelude.{◌≡◌, ℕ, Bool, false, ◌==◌, List, length, get_or, Option, Some, None}
use Rattle.std.specs.Global.{Vec}
use Rattle.circular_buffer.specs.Buffer.{Buffer}
use Rattle.nx_envelope.specs.declared.identity.Identity.{Identity}
use Rattle.nx_memory.specs.declared.memories.entry.MemoryEntry.{MemoryEntry}
use Rattle.nx_memory.specs.Content.{IsContent}
use Rattle.nx_memory.specs.Memory.{most_entries}
use Rattle.nx_memory.specs.Table.{identities, index_of, moment_of_last}

-- it is this moment
abbrev pub is_moment : ℕ → Option ℕ → Bool
is_moment moment None = false
is_moment moment (Some last) = last == moment

-- at the place of each identity stands the moment of its last entry, or that there is none
pub record IsTableOf (content : List MemoryEntry) (moments : List (Option ℕ)) : Type 0 where
  pub size : length moments ≡ identities
  pub last :
      (identity : Identity)
      → get_or moments (index_of identity) None ≡ moment_of_last identity content

-- the moment that stands at the identity of an entry is the entry's own
abbrev pub holds_moment : List (Option ℕ) → MemoryEntry → Bool
holds_moment moments entry = is_moment entry.moment (get_or moments (index_of entry.identity) None)

-- the ring has room for 200 entries, those in it are a content, and the table is theirs
pub record IsRingMemory (ring : Buffer MemoryEntry) (table : Vec (Option ℕ)) : Type 0 where
  pub capacity : ring.capacity ≡ most_entries
  pub content : IsContent ring.items
  pub table_of : IsTableOf ring.items table.items
