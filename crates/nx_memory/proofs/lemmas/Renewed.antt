-- The entries of a memory that enters what it knows, and those of them that are known last.
use Rattle.std.proofs.Common.{◌≡◌, ℕ, ◌+◌, ◌-◌, ◌<◌, ◌≤◌, zero, suc, Bool, true, false, ◌&&◌, ◌||◌}
use Rattle.std.proofs.Common.{cond, not, List, [], ◌∷◌, ◌++◌, length, drop, get_or, nat_lt, inl, inr}
use Rattle.std.proofs.Common.{refl, sym, ap, ◌∙◌, subst, append_assoc, arith}
use Rattle.std.specs.List.{All, list_any}
use Rattle.std.proofs.lemmas.Bool.{and_from, and_parts, false≢true, lt-ltb, ltb-false, ltb-true}
use Rattle.std.proofs.lemmas.Bool.{not-true, or_cases, or_parts, or_right}
use Rattle.std.proofs.lemmas.List.{drop_more, length-drop}
use Rattle.std.proofs.lemmas.List.Elements.{All-append, All-cons, All-drop, All-head, All-nil}
use Rattle.nx_envelope.specs.declared.identity.Identity.{Identity}
use Rattle.nx_envelope.specs.Identity.{same_identity}
use Rattle.nx_envelope.proofs.lemmas.headers.Identities.{same_identity-true}
use Rattle.nx_memory.specs.declared.memories.entry.MemoryEntry.{MemoryEntry}
use Rattle.nx_memory.specs.Content.{AreInTurn, IsContent, IsLater, IsRenewedContent, NeverFall}
use Rattle.nx_memory.specs.Content.{is_last_known, last_known, passing, renews}
use Rattle.nx_memory.specs.Memory.{content_after, is_known, is_recent, most_entries}
use Rattle.nx_memory.specs.Memory.{newest_moment, seconds_known}
use Rattle.nx_memory.proofs.lemmas.Content.{All-one, newest_behind}
use Rattle.std.proofs.lemmas.List.Elements.{All-tail}

-- What stays of them where one more is entered.

never_fall-drop : (n : ℕ) (entries : List MemoryEntry) → NeverFall entries
    → NeverFall (drop n entries)
never_fall-drop zero entries order = order
never_fall-drop (suc n) [] order = tt
never_fall-drop (suc n) (entry ∷ later) order = never_fall-drop n later order.1

never_fall-push : (entries : List MemoryEntry) (last : MemoryEntry) → NeverFall entries
    → All (λ entry. entry.moment ≤ last.moment) entries → NeverFall (entries ++ last ∷ [])
never_fall-push [] last order before =
    (All-nil (λ (other : MemoryEntry). last.moment ≤ other.moment), tt)
never_fall-push (entry ∷ others) last order before = (
  All-append (λ (other : MemoryEntry). entry.moment ≤ other.moment) others (last ∷ []) order.0
      (All-one (λ (other : MemoryEntry). entry.moment ≤ other.moment) last
      (All-head (λ (it : MemoryEntry). it.moment ≤ last.moment) entry others before)),
  never_fall-push others last order.1
      (All-tail (λ (it : MemoryEntry). it.moment ≤ last.moment) entry others before),
)

-- where the newest isn't later than a moment, none is
none_past : (entries : List MemoryEntry) (moment : ℕ) → NeverFall entries
    → newest_moment entries ≤ moment → All (λ entry. entry.moment ≤ moment) entries
none_past [] moment order newest = All-nil (λ (entry : MemoryEntry). entry.moment ≤ moment)
none_past (entry ∷ []) moment order newest =
    All-one (λ (it : MemoryEntry). it.moment ≤ moment) entry newest
none_past (entry ∷ next ∷ later) moment order newest =
    let others = none_past (next ∷ later) moment order.1
    (subst (λ (n : ℕ). n ≤ moment) (newest_behind entry next later) newest) in
    let next_is = All-head (λ (it : MemoryEntry). it.moment ≤ moment) next later others in
    let first = All-head (λ (it : MemoryEntry). entry.moment ≤ it.moment) next later order.0 in
    All-cons (λ (it : MemoryEntry). it.moment ≤ moment) entry (next ∷ later) (omega arith) others

-- the entries after one more was entered
pub renewed-after : (content : List MemoryEntry) (identity : Identity) (moment : ℕ)
    → IsRenewedContent content → newest_moment content ≤ moment → 0 < identity.number
    → IsRenewedContent (content_after content identity moment)
renewed-after content identity moment is newest numbered =
    let entry : MemoryEntry = record { identity = identity; moment = moment } in
    let made : List MemoryEntry = content ++ entry ∷ [] in
    let n : ℕ = length made - most_entries in
    let named : All (λ (it : MemoryEntry). 0 < it.identity.number) made =
    All-append (λ (it : MemoryEntry). 0 < it.identity.number) content (entry ∷ []) is.numbered
    (All-one (λ (it : MemoryEntry). 0 < it.identity.number) entry numbered) in
    record {
      bounded = omega (arith, length-drop n made);
      numbered = All-drop (λ (it : MemoryEntry). 0 < it.identity.number) n made named;
      in_order = never_fall-drop n made
          (never_fall-push content entry is.in_order
          (none_past content moment is.in_order newest));
    }

-- Those that are known last.

-- what holds of each holds of those that pass
pub All-passing : (P : MemoryEntry → Type 0) (test : MemoryEntry → List MemoryEntry → Bool)
    (entries : List MemoryEntry) → All P entries → All P (passing test entries)
All-passing P test [] all = All-nil P
All-passing P test (entry ∷ behind) all =
    All-append P (cond (test entry behind) (entry ∷ []) []) (passing test behind)
    (elim (test entry behind) as (λ b. All P (cond b (entry ∷ []) [])) [
      | true ↦ All-cons P entry [] (All-head P entry behind all) (All-nil P)
      | false ↦ All-nil P
    ])
    (All-passing P test behind (All-tail P entry behind all))

pub length-passing : (test : MemoryEntry → List MemoryEntry → Bool) (entries : List MemoryEntry)
    → length (passing test entries) ≤ length entries
length-passing test [] = omega arith
length-passing test (entry ∷ behind) =
    let few = length-passing test behind in
    elim (test entry behind) as (λ b. length (cond b (entry ∷ []) [] ++ passing test behind)
    ≤ suc (length behind)) [
      | true ↦ omega arith
      | false ↦ omega arith
    ]

-- an entry and one behind it, which doesn't renew it
is_later : (entry other : MemoryEntry) → entry.moment ≤ other.moment
    → renews entry other ≡ false → IsLater entry other
is_later entry other order none = record {
  in_turn = order;
  apart = λ same.
      let short : nat_lt (other.moment - entry.moment) seconds_known ≡ false =
      ap (λ b. b && nat_lt (other.moment - entry.moment) seconds_known) (sym same) ∙ none in
      let far = ltb-false (other.moment - entry.moment) seconds_known short in omega arith;
}

all_later : (entry : MemoryEntry) (behind : List MemoryEntry)
    → All (λ other. entry.moment ≤ other.moment) behind
    → list_any (λ other. renews entry other) behind ≡ false → All (IsLater entry) behind
all_later entry [] order none = All-nil (IsLater entry)
all_later entry (next ∷ behind) order none =
    let parts = or_parts (renews entry next) (list_any (λ other. renews entry other) behind) none in
    All-cons (IsLater entry) next behind
    (is_later entry next
    (All-head (λ (other : MemoryEntry). entry.moment ≤ other.moment) next behind order) parts.0)
    (all_later entry behind
    (All-tail (λ (other : MemoryEntry). entry.moment ≤ other.moment) next behind order) parts.1)

pub in_turn-last_known : (entries : List MemoryEntry) → NeverFall entries
    → AreInTurn (last_known entries)
in_turn-last_known [] order = tt
in_turn-last_known (entry ∷ behind) order =
    elim (is_last_known entry behind) as (λ b. is_last_known entry behind ≡ b
    → AreInTurn (cond b (entry ∷ []) [] ++ last_known behind)) [
      | true ↦ λ is. (
        All-passing (IsLater entry) is_last_known behind
            (all_later entry behind order.0
            (not-true (list_any (λ other. renews entry other) behind) is)),
        in_turn-last_known behind order.1,
      )
      | false ↦ λ is. in_turn-last_known behind order.1
    ] refl

-- they are what a memory can hold that enters nothing it knows
pub last_known-content : (entries : List MemoryEntry) → IsRenewedContent entries
    → IsContent (last_known entries)
last_known-content entries is = record {
  bounded = omega (arith, is.bounded, length-passing is_last_known entries);
  numbered = All-passing (λ (it : MemoryEntry). 0 < it.identity.number) is_last_known entries
      is.numbered;
  in_turn = in_turn-last_known entries is.in_order;
}

-- the newest is one of them, so there is one where there are entries
record BeginsSo (entries : List MemoryEntry) : Type 0 where
  first : MemoryEntry
  later : List MemoryEntry
  whole : entries ≡ first ∷ later

one_known : (entry : MemoryEntry) (behind : List MemoryEntry)
    → BeginsSo (last_known (entry ∷ behind))
one_known entry [] = record { first = entry; later = []; whole = refl }
one_known entry (next ∷ behind) =
    let rest = one_known next behind in
    elim (is_last_known entry (next ∷ behind)) as (λ b. BeginsSo
    (cond b (entry ∷ []) [] ++ last_known (next ∷ behind))) [
      | true ↦ record { first = entry; later = last_known (next ∷ behind); whole = refl }
      | false ↦ rest
    ]

pub newest-last_known : (entries : List MemoryEntry)
    → newest_moment (last_known entries) ≡ newest_moment entries
newest-last_known [] = refl
newest-last_known (entry ∷ []) = refl
newest-last_known (entry ∷ next ∷ behind) =
    let rest = newest-last_known (next ∷ behind) ∙ sym (newest_behind entry next behind) in
    let some = one_known next behind in
    elim (is_last_known entry (next ∷ behind)) as (λ b. newest_moment
    (cond b (entry ∷ []) [] ++ last_known (next ∷ behind))
    ≡ newest_moment (entry ∷ next ∷ behind)) [
      | true ↦ ap (λ l. newest_moment (entry ∷ l)) some.whole
          ∙ newest_behind entry some.first some.later
          ∙ ap newest_moment (sym some.whole)
          ∙ rest
      | false ↦ rest
    ]

-- What is left out told nothing more.

renewed_recent : (identity : Identity) (moment : ℕ) (entry other : MemoryEntry)
    → entry.moment ≤ other.moment → renews entry other ≡ true
    → is_recent identity moment entry ≡ true → is_recent identity moment other ≡ true
renewed_recent identity moment entry other order renewed recent =
    let same = and_parts (same_identity entry.identity other.identity)
    (nat_lt (other.moment - entry.moment) seconds_known) renewed in
    let was = and_parts (same_identity entry.identity identity)
    (nat_lt (moment - entry.moment) seconds_known) recent in
    let near = ltb-true (moment - entry.moment) seconds_known was.1 in
    and_from (same_identity other.identity identity)
    (nat_lt (moment - other.moment) seconds_known)
    (subst (λ (i : Identity). same_identity i identity ≡ true)
    (same_identity-true entry.identity other.identity same.0) was.0)
    (lt-ltb (moment - other.moment) seconds_known (omega arith))

renewed_known : (identity : Identity) (moment : ℕ) (entry : MemoryEntry)
    (behind : List MemoryEntry) → All (λ other. entry.moment ≤ other.moment) behind
    → list_any (λ other. renews entry other) behind ≡ true
    → is_recent identity moment entry ≡ true → is_known identity moment behind ≡ true
renewed_known identity moment entry [] order renewed recent = absurd (false≢true renewed)
renewed_known identity moment entry (next ∷ behind) order renewed recent =
    elim (or_cases (renews entry next) (list_any (λ other. renews entry other) behind) renewed) [
      | inl here ↦
          ap (λ b. b || is_known identity moment behind)
          (renewed_recent identity moment entry next
          (All-head (λ (other : MemoryEntry). entry.moment ≤ other.moment) next behind order) here
          recent)
      | inr later ↦
          or_right (is_recent identity moment next) (is_known identity moment behind)
          (renewed_known identity moment entry behind
          (All-tail (λ (other : MemoryEntry). entry.moment ≤ other.moment) next behind order) later
          recent)
    ]

-- so an entry that is left out makes nothing known that the others don't
left_out : (identity : Identity) (moment : ℕ) (entry : MemoryEntry) (behind : List MemoryEntry)
    → All (λ other. entry.moment ≤ other.moment) behind
    → list_any (λ other. renews entry other) behind ≡ true
    → is_known identity moment behind
    ≡ (is_recent identity moment entry || is_known identity moment behind)
left_out identity moment entry behind order renewed =
    elim (is_recent identity moment entry) as (λ b. is_recent identity moment entry ≡ b
    → is_known identity moment behind ≡ (b || is_known identity moment behind)) [
      | true ↦ λ recent. renewed_known identity moment entry behind order renewed recent
      | false ↦ λ old. refl
    ] refl

pub known-last_known : (entries : List MemoryEntry) (identity : Identity) (moment : ℕ)
    → NeverFall entries
    → is_known identity moment (last_known entries) ≡ is_known identity moment entries
known-last_known [] identity moment order = refl
known-last_known (entry ∷ behind) identity moment order =
    let rest = known-last_known behind identity moment order.1 in
    elim (list_any (λ other. renews entry other) behind) as (λ b.
    list_any (λ other. renews entry other) behind ≡ b
    → is_known identity moment (cond (not b) (entry ∷ []) [] ++ last_known behind)
    ≡ (is_recent identity moment entry || is_known identity moment behind)) [
      | true ↦ λ renewed. rest ∙ left_out identity moment entry behind order.0 renewed
      | false ↦ λ none. ap (λ b. is_recent identity moment entry || b) rest
    ] refl
