-- A ring of entries and the table of their moments, after one more was entered.
use Rattle.std.proofs.Common.{◌≡◌, ℕ, ◌<◌, ◌≤◌, false, if◌then◌else◌, List, [], ◌∷◌, ◌++◌, length}
use Rattle.std.proofs.Common.{slice_get, ltb, Option, Some, None, ap, ◌∙◌}
use Rattle.std.proofs.Math.ListN.{set}
use Rattle.std.specs.Global.{Vec}
use Rattle.circular_buffer.specs.Buffer.{Buffer, buffer, keep_last}
use Rattle.nx_envelope.specs.declared.identity.Identity.{Identity}
use Rattle.nx_memory.specs.declared.memories.entry.MemoryEntry.{MemoryEntry}
use Rattle.nx_memory.specs.Memory.{newest_moment, is_known, content_after}
use Rattle.nx_memory.specs.private.RingAndTable.{IsRingMemory}
use Rattle.nx_memory.specs.Table.{index_of}
use Rattle.nx_memory.proofs.lemmas.Content.{content_after-IsContent}
use Rattle.nx_memory.proofs.lemmas.Tables.{table_given_up, table-entered}

-- what `push_back` gives up of a ring with room for n entries
abbrev pub given_up : ℕ → List MemoryEntry → MemoryEntry → Option MemoryEntry
given_up n entries last =
    if ltb (length entries) n then None else slice_get (entries ++ last ∷ []) 0

pub ring-entered : (ring next : Buffer MemoryEntry) (table changed : Vec (Option ℕ))
    (identity : Identity) (moment : ℕ) (fallen : Option MemoryEntry) → IsRingMemory ring table
    → newest_moment ring.items ≤ moment → is_known identity moment ring.items ≡ false
    → 0 < identity.number → next
    ≡ buffer (keep_last ring.capacity
    (ring.items ++ record { identity = identity; moment = moment } ∷ [])) ring.capacity
    → fallen ≡ given_up ring.capacity ring.items (record { identity = identity; moment = moment })
    → changed.items ≡ set (table_given_up fallen table.items) (index_of identity) (Some moment)
    → IsRingMemory next changed
ring-entered ring next table changed identity moment fallen is newest unknown numbered pushed gave
    set_to =
    let last : MemoryEntry = record { identity = identity; moment = moment } in
    let items : next.items ≡ content_after ring.items identity moment =
    ap (λ (it : Buffer MemoryEntry). it.items) pushed
    ∙ ap (λ n. keep_last n (ring.items ++ last ∷ [])) is.capacity in
    let fell : fallen ≡ given_up 200 ring.items last =
    gave ∙ ap (λ n. given_up n ring.items last) is.capacity in
    record {
      capacity = ap (λ (it : Buffer MemoryEntry). it.capacity) pushed ∙ is.capacity;
      content = rw items (content_after-IsContent ring.items identity moment is.content newest
          unknown numbered);
      table_of = rw (items, set_to)
          (table-entered ring.items last table.items fallen is.content.bounded is.content.in_turn
          is.table_of fell);
    }
