-- What is remembered of a log.
use Rattle.std.proofs.Common.{◌≡◌, ℕ, ◌≤◌, ◌<◌, true, false, cond, List}
use Rattle.std.proofs.Common.{[], ◌∷◌, ◌++◌, length, refl, sym, subst}
use Rattle.std.proofs.Common.{arith, nat_le}
use Rattle.std.specs.Prelude.{filter}
use Rattle.std.specs.List.{All}
use Rattle.std.proofs.lemmas.Bool.{and_parts, leb-true}
use Rattle.std.proofs.lemmas.List.Elements.{All-cons, All-filter, All-head, All-nil}
use Rattle.std.proofs.lemmas.List.Elements.{All-tail}
use Rattle.std.proofs.lemmas.List.Sums.{count_by-le-length, length-filter}
use Rattle.nx_envelope.specs.Moment.{last_moment}
use Rattle.nx_memory.specs.Content.{NeverFall}
use Rattle.nx_memory.specs.Memory.{newest_moment}
use Rattle.nx_memory.specs.Saved.{AreSavedEntries}
use Rattle.nx_memory.specs.declared.memories.entry.MemoryEntry.{MemoryEntry}
use Rattle.nx_memory.proofs.lemmas.Content.{newest_behind}
use Rattle.nx_memory.specs.Content.{is_last_known, passing}
use Rattle.nx_memory.proofs.lemmas.Renewed.{All-passing, in_turn-last_known, length-passing}
use Rattle.nx_watch.specs.Start.{is_in_order, is_near, remembered_at}

all-order : (entry : MemoryEntry) (behind : List MemoryEntry) → is_in_order entry behind ≡ true
    → All (λ other. entry.moment ≤ other.moment) behind
all-order entry [] h = All-nil (λ (other : MemoryEntry). entry.moment ≤ other.moment)
all-order entry (next ∷ behind) h =
    let parts = and_parts (nat_le entry.moment next.moment) (is_in_order entry behind) h in
    All-cons (λ (other : MemoryEntry). entry.moment ≤ other.moment) next behind
    (leb-true entry.moment next.moment parts.0) (all-order entry behind parts.1)

passing-order : (entries : List MemoryEntry) → NeverFall (passing is_in_order entries)
passing-order [] = tt
passing-order (entry ∷ behind) =
    elim (is_in_order entry behind) as (λ b. is_in_order entry behind ≡ b
    → NeverFall (cond b (entry ∷ []) [] ++ passing is_in_order behind)) [
      | true ↦ λ is. (
        All-passing (λ other. entry.moment ≤ other.moment) is_in_order behind
            (all-order entry behind is),
        passing-order behind,
      )
      | false ↦ λ is. passing-order behind
    ] refl

newest-in : (entries : List MemoryEntry) → All (λ entry. entry.moment ≤ last_moment) entries
    → newest_moment entries ≤ last_moment
newest-in [] h = omega arith
newest-in (entry ∷ []) h =
    All-head (λ (it : MemoryEntry). it.moment ≤ last_moment) entry [] h
newest-in (entry ∷ next ∷ behind) h =
    subst (λ (n : ℕ). n ≤ last_moment) (sym (newest_behind entry next behind))
    (newest-in (next ∷ behind)
    (All-tail (λ (it : MemoryEntry). it.moment ≤ last_moment) entry (next ∷ behind) h))

-- what is remembered can be saved
pub remembered-sound : (moment : ℕ) (entries : List MemoryEntry) → length entries ≤ 200
    → All (λ entry. 0 < entry.identity.number) entries
    → All (λ entry. entry.moment ≤ last_moment) entries
    → AreSavedEntries (remembered_at moment entries)
remembered-sound moment entries few numbered range =
    let near = filter (is_near moment) entries in
    let order = passing is_in_order near in
    record {
      content = record {
        bounded = omega (
          arith,
          few,
          length-passing is_last_known order,
          length-passing is_in_order near,
          length-filter (is_near moment) entries,
          count_by-le-length (is_near moment) entries,
        );
        numbered = All-passing (λ entry. 0 < entry.identity.number) is_last_known order
            (All-passing (λ entry. 0 < entry.identity.number) is_in_order near
            (All-filter (is_near moment) (λ (entry : MemoryEntry). 0 < entry.identity.number)
            entries numbered));
        in_turn = in_turn-last_known order (passing-order near);
      };
      in_range = newest-in (remembered_at moment entries)
          (All-passing (λ entry. entry.moment ≤ last_moment) is_last_known order
          (All-passing (λ entry. entry.moment ≤ last_moment) is_in_order near
          (All-filter (is_near moment) (λ (entry : MemoryEntry). entry.moment ≤ last_moment)
          entries range)));
    }
