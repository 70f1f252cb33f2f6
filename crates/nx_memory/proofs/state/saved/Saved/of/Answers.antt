use Rattle.std.proofs.Common.{arith}
use Rattle.std.proofs.lemmas.Grind.{common_steps}
use Rattle.std.proofs.Common.{rules, ◌≡◌, List, ◌++◌, ap, ◌∙◌}
use Rattle.nx_memory.specs.declared.memories.entry.MemoryEntry.{MemoryEntry}
use Rattle.nx_memory.proofs.lemmas.Loading.{one_of, taken-more}
use Rattle.nx_memory.proofs.state.saved.Saved.of.Goals as goal
use Rattle.nx_memory.proofs.state.saved.Saved.of.Goals.{in-Some, in_default}

pub loop-place-preserved : goal.loop-place-preserved
loop-place-preserved g c =
    let made : c.match-entry.entries.items ≡ c.loop-place.entries.items ++ one_of c.entry.result =
    elim c.match-entry.branch [ in-Some w ↦ search rules | in_default w ↦ search rules ] in
    made
    ∙ ap (λ (them : List MemoryEntry). them ++ one_of c.entry.result) c.loop-place.invariant
    ∙ rw c.entry.ensures (taken-more (g.M.Recall.content c.args.memory.now) c.loop-place.place)
