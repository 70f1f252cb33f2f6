use Rattle.std.proofs.Common.{◌≤◌, sym, subst}
use Rattle.std.specs.List.{All}
use Rattle.std.proofs.lemmas.List.Elements.{All-get_or}
use Rattle.nx_envelope.specs.Moment.{last_moment}
use Rattle.nx_memory.specs.declared.memories.entry.MemoryEntry.{MemoryEntry}
use Rattle.nx_memory.proofs.lemmas.Content.{none_later}
use Rattle.nx_memory.proofs.state.saved.Saved.line.Goals as goal

pub returns-clause-spelled : goal.returns-clause-spelled
returns-clause-spelled c =
    let all = none_later c.self.inside.entries.items last_moment c.self.invariant.content.in_turn
    c.self.invariant.in_range in
    let at = c.in_ok-entry.ensures.lookup in
    let listed = subst (All (λ (entry : MemoryEntry). entry.moment ≤ last_moment))
    (sym c.as_slice-3.ensures.value) all in
    subst (λ (entry : MemoryEntry). entry.moment ≤ last_moment) (sym at.1)
    (All-get_or (λ (entry : MemoryEntry). entry.moment ≤ last_moment) c.as_slice-3.result.now _
    c.in_ok-entry.entry.now at.3.0 listed)
