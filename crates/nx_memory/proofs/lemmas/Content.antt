-- What the conditions of entering keep of the entries.
use Rattle.std.proofs.Common.{◌≡◌, ℕ, ◌+◌, ◌-◌, ◌<◌, ◌≤◌, zero, suc, true, false, List, [], ◌∷◌}
use Rattle.std.proofs.Common.{◌++◌, length, drop, slice_get, unwrap_or, ltb, inl, inr, sym, ap, ◌∙◌}
use Rattle.std.proofs.Common.{subst, arith}
use Rattle.std.specs.List.{All}
use Rattle.std.specs.Option.{option_map}
use Rattle.std.proofs.lemmas.Bool.{and_cases, or_parts, ltb-false, true≢false}
use Rattle.std.proofs.lemmas.List.{length-drop}
use Rattle.std.proofs.lemmas.List.Elements.{All-nil, All-cons, All-head, All-drop, All-append}
use Rattle.nx_envelope.specs.declared.identity.Identity.{Identity}
use Rattle.nx_envelope.specs.Identity.{same_identity}
use Rattle.nx_memory.specs.declared.memories.entry.MemoryEntry.{MemoryEntry}
use Rattle.nx_memory.specs.Content.{IsLater, AreInTurn, IsContent}
use Rattle.nx_memory.specs.Memory.{most_entries, seconds_known, newest_moment, content_after}
use Rattle.nx_memory.specs.Memory.{is_recent, is_known}
use Rattle.std.proofs.lemmas.List.Elements.{All-tail}

-- what holds of each of a list and of one more
pub All-one : {X : Type 0} (P : X → Type 0) (x : X) → P x → All P (x ∷ [])
All-one P x h zero d below = h
All-one P x h (suc k) d below = absurd (omega arith)

-- the entries that are left when the oldest are forgotten stand in turn
in_turn-drop : (n : ℕ) (entries : List MemoryEntry) → AreInTurn entries → AreInTurn (drop n entries)
in_turn-drop zero entries turn = turn
in_turn-drop (suc n) [] turn = tt
in_turn-drop (suc n) (entry ∷ later) turn = in_turn-drop n later turn.1

-- and one more that is later than each of them
in_turn-push : (entries : List MemoryEntry) (last : MemoryEntry) → AreInTurn entries
    → All (λ entry. IsLater entry last) entries → AreInTurn (entries ++ last ∷ [])
in_turn-push [] last turn later = (All-nil (IsLater last), tt)
in_turn-push (entry ∷ others) last turn later = (
  All-append (IsLater entry) others (last ∷ []) turn.0
      (All-one (IsLater entry) last (All-head (λ it. IsLater it last) entry others later)),
  in_turn-push others last turn.1 (All-tail (λ it. IsLater it last) entry others later),
)

-- the last of two or more is the last without the first
pub newest_behind : (entry next : MemoryEntry) (later : List MemoryEntry)
    → newest_moment (entry ∷ next ∷ later) ≡ newest_moment (next ∷ later)
newest_behind entry next later =
    let place : length (entry ∷ next ∷ later) - 1 ≡ suc (length (next ∷ later) - 1) = omega arith in
    ap (λ (i : ℕ). unwrap_or (option_map (λ (it : MemoryEntry). it.moment)
    (slice_get (entry ∷ next ∷ later) i)) 0) place

-- where the newest isn't later than a moment, none is
pub none_later : (entries : List MemoryEntry) (moment : ℕ) → AreInTurn entries
    → newest_moment entries ≤ moment → All (λ entry. entry.moment ≤ moment) entries
none_later [] moment turn newest = All-nil (λ (entry : MemoryEntry). entry.moment ≤ moment)
none_later (entry ∷ []) moment turn newest =
    All-one (λ (it : MemoryEntry). it.moment ≤ moment) entry newest
none_later (entry ∷ next ∷ later) moment turn newest =
    let others = none_later (next ∷ later) moment turn.1
    (subst (λ (n : ℕ). n ≤ moment) (newest_behind entry next later) newest) in
    let next_is = All-head (λ (it : MemoryEntry). it.moment ≤ moment) next later others in
    let first = (All-head (IsLater entry) next later turn.0).in_turn in
    All-cons (λ (it : MemoryEntry). it.moment ≤ moment) entry (next ∷ later) (omega arith) others

old_enough : (identity : Identity) (moment : ℕ) (entry : MemoryEntry)
    → same_identity entry.identity identity ≡ true → is_recent identity moment entry ≡ false
    → entry.moment + seconds_known ≤ moment
old_enough identity moment entry same not_recent =
    elim (and_cases (same_identity entry.identity identity)
    (ltb (moment - entry.moment) seconds_known) not_recent) [
      | inl other ↦ absurd (true≢false (sym same ∙ other))
      | inr old ↦ let far = ltb-false (moment - entry.moment) seconds_known old in omega arith
    ]

-- where an identity isn't known at a moment, each entry of it was made 66 hours before, or more
long_before : (identity : Identity) (moment : ℕ) (entries : List MemoryEntry)
    → is_known identity moment entries ≡ false
    → All (λ entry. same_identity entry.identity identity ≡ true
    → entry.moment + seconds_known ≤ moment) entries
long_before identity moment [] unknown =
    All-nil (λ (entry : MemoryEntry). same_identity entry.identity identity ≡ true
    → entry.moment + seconds_known ≤ moment)
long_before identity moment (entry ∷ others) unknown =
    let parts = or_parts (is_recent identity moment entry) (is_known identity moment others)
    unknown in
    All-cons (λ (it : MemoryEntry). same_identity it.identity identity ≡ true
    → it.moment + seconds_known ≤ moment) entry others
    (λ same. old_enough identity moment entry same parts.0)
    (long_before identity moment others parts.1)

-- so an entry that the conditions of entering admit is later than each
pub later_than_all : (entries : List MemoryEntry) (identity : Identity) (moment : ℕ)
    → AreInTurn entries → newest_moment entries ≤ moment → is_known identity moment entries ≡ false
    → All (λ entry. IsLater entry (record { identity = identity; moment = moment })) entries
later_than_all entries identity moment turn newest unknown k d below =
    record {
      in_turn = none_later entries moment turn newest k d below;
      apart =
          long_before identity moment entries unknown k d below;
    }

pub content-nil : IsContent []
content-nil = record {
  bounded = omega arith;
  numbered =
      All-nil (λ (it : MemoryEntry). 0 < it.identity.number);
  in_turn = tt;
}

-- the entries after one more was entered
pub content_after-IsContent : (content : List MemoryEntry) (identity : Identity) (moment : ℕ)
    → IsContent content → newest_moment content ≤ moment → is_known identity moment content ≡ false
    → 0 < identity.number → IsContent (content_after content identity moment)
content_after-IsContent content identity moment is newest unknown numbered =
    let entry : MemoryEntry = record { identity = identity; moment = moment } in
    let made : List MemoryEntry = content ++ entry ∷ [] in
    let n : ℕ = length made - most_entries in
    let named : All (λ (it : MemoryEntry). 0 < it.identity.number) made =
    All-append (λ (it : MemoryEntry). 0 < it.identity.number) content (entry ∷ []) is.numbered
    (All-one (λ (it : MemoryEntry). 0 < it.identity.number) entry numbered) in
    record {
      bounded = omega (arith, length-drop n made);
      numbered = All-drop (λ (it : MemoryEntry). 0 < it.identity.number) n made named;
      in_turn = in_turn-drop n made
          (in_turn-push content entry is.in_turn
          (later_than_all content identity moment is.in_turn newest unknown));
    }
