use Rattle.std.proofs.Common.{◌≡◌, ℕ, List, sym, ap, ◌∙◌, Option, Some}
use Rattle.std.proofs.Math.ListN.{set}
use Rattle.nx_memory.specs.Ring.{RingMemory}
use Rattle.nx_memory.specs.Table.{index_of}
use Rattle.nx_memory.specs.declared.memories.entry.MemoryEntry.{MemoryEntry}
use Rattle.nx_memory.specs.declared.memories.ring_recall.RingRecall.TheInside.{Inside}
use Rattle.nx_memory.proofs.lemmas.Rings.{ring-entered}
use Rattle.nx_memory.proofs.lemmas.Tables.{table_given_up}
use Rattle.nx_memory.proofs.memories.ring_recall.RingRecallRecall.enter.Goals as goal
use Rattle.nx_memory.proofs.memories.ring_recall.RingRecallRecall.enter.Goals.{in-Some, in_default}

pub invariant_of-self : goal.invariant_of-self
invariant_of-self c =
    let entries : c.match-push_back.self-inside.entries ≡ c.push_back.new.self =
    elim c.match-push_back.branch [
      | in-Some w ↦ ap (λ (it : Inside). it.entries) w.self-inside-is
      | in_default w ↦ ap (λ (it : Inside). it.entries) w.self-inside-is
    ] in
    let table : c.match-push_back.self-inside.table.items
    ≡ table_given_up c.push_back.result c.self.inside.table.items =
    elim c.match-push_back.branch [
      | in-Some w ↦
          ap (λ (it : Inside). it.table.items) w.self-inside-is
          ∙ w.clear.ensures.moments
          ∙ sym (ap (λ (it : Option MemoryEntry). table_given_up it c.self.inside.table.items)
          w.in-Some.is)
      | in_default w ↦
          ap (λ (it : Inside). it.table.items) w.self-inside-is
          ∙ sym (ap (λ (it : Option MemoryEntry). table_given_up it c.self.inside.table.items)
          w.in_default.is)
    ] in
    let content : c.self.inside.entries.items ≡ c.args.self.now.content =
    ap (λ (it : RingMemory). it.content) c.self.view_is in
    ring-entered c.self.inside.entries c.match-push_back.self-inside.entries c.self.inside.table
    c.set.new.self
    c.args.identity c.args.moment c.push_back.result c.self.invariant
    (rw content c.requires.not_before) (rw content c.requires.unknown) c.requires.numbered
    (entries ∙ c.push_back.ensures.items) c.push_back.ensures.value
    (c.set.ensures.moments ∙ ap
    (λ (it : List (Option ℕ)). set it (index_of c.args.identity) (Some c.args.moment)) table)
