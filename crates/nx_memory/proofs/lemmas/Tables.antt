-- The table of moments: a place for each identity, and at it the moment of its last entry.
use Rattle.std.proofs.Common.{◌≡◌, ℕ, ◌+◌, ◌-◌, ◌*◌, ◌<◌, ◌≤◌, Bool, true, false, ◌&&◌, ◌||◌}
use Rattle.std.proofs.Common.{if◌then◌else◌, List, [], ◌∷◌, ◌++◌, length, replicate, get_or}
use Rattle.std.proofs.Common.{slice_get, slice_index_or, drop, ltb, eqb, inl, inr, Option, Some}
use Rattle.std.proofs.Common.{None, ◌≢◌, refl, sym, ap, ◌∙◌, subst, arith}
use Rattle.std.proofs.Math.ListN.{set, length-set}
use Rattle.std.specs.List.{All}
use Rattle.std.specs.Option.{option_or}
use Rattle.std.proofs.lemmas.Bool.{true≢false, or_right, ltb-false, le-ltb, lt-ltb, cases_lt}
use Rattle.std.proofs.lemmas.Bool.{and_from, eq-eqb, ne_eqb}
use Rattle.std.proofs.lemmas.List.{get_or-set_same, get_or-set_other, get_or-replicate}
use Rattle.std.proofs.lemmas.List.{length-replicate, length-append}
use Rattle.std.proofs.lemmas.List.Elements.{All-head, All-tail}
use Rattle.std.proofs.lemmas.Nat.{same_from_place}
use Rattle.std.proofs.lemmas.Option.{same_Some}
use Rattle.nx_code.specs.Lists.{last_of}
use Rattle.nx_envelope.specs.declared.identity.Identity.{Identity}
use Rattle.nx_envelope.specs.Identity.{same_identity}
use Rattle.nx_envelope.proofs.lemmas.headers.Identities.{same_identity-true, same_itself}
use Rattle.nx_memory.specs.declared.memories.entry.MemoryEntry.{MemoryEntry}
use Rattle.nx_memory.specs.Content.{IsLater, AreInTurn}
use Rattle.nx_memory.specs.Memory.{most_entries, seconds_known, is_recent, is_known}
use Rattle.nx_memory.specs.private.RingAndTable.{is_moment, holds_moment, IsTableOf}
use Rattle.nx_memory.specs.Table.{identities, index_of, moment_of_last, is_recent_moment}

-- each place is within the table, and two identities have two places
pub index_within : (identity : Identity) → index_of identity < identities
index_within identity =
    let station = identity.b1.in_range in
    let subject = identity.b2.in_range in
    let number = identity.two_digits in
    omega (arith, station.0, station.1, subject.0, subject.1)

pub same_index : (a b : Identity) → index_of a ≡ index_of b → same_identity a b ≡ true
same_index a b places =
    let numbers : a.number < 100 = omega (arith, a.two_digits) in
    let others : b.number < 100 = omega (arith, b.two_digits) in
    let split = same_from_place ((a.b1.byte - 65) * 26 + (a.b2.byte - 65)) a.number
    ((b.b1.byte - 65) * 26 + (b.b2.byte - 65)) b.number 100 numbers others places in
    let subject : a.b2.byte - 65 < 26 = omega (arith, a.b2.in_range.1) in
    let other : b.b2.byte - 65 < 26 = omega (arith, b.b2.in_range.1) in
    let letters = same_from_place (a.b1.byte - 65) (a.b2.byte - 65) (b.b1.byte - 65)
    (b.b2.byte - 65) 26 subject other split.0 in
    and_from _ _ (and_from _ _
    (eq-eqb a.b1.byte b.b1.byte (omega (arith, letters.0, a.b1.in_range.0, b.b1.in_range.0)))
    (eq-eqb a.b2.byte b.b2.byte (omega (arith, letters.1, a.b2.in_range.0, b.b2.in_range.0))))
    (eq-eqb a.number b.number split.1)

pub same_turned : (a b : Identity) → same_identity a b ≡ true → same_identity b a ≡ true
same_turned a b same = subst (λ (it : Identity). same_identity b it ≡ true)
    (sym (same_identity-true a b same)) (same_itself b)

-- what holds of each entry's moment of an identity holds of its last moment
last_holds : (P : ℕ → Type 0) (identity : Identity) (entries : List MemoryEntry)
    → All (λ entry. same_identity entry.identity identity ≡ true → P entry.moment) entries
    → (last : ℕ) → moment_of_last identity entries ≡ Some last → P last
last_holds P identity [] all last is = cc
last_holds P identity (entry ∷ later) all last is =
    elim (moment_of_last identity later) as (λ o. moment_of_last identity later ≡ o
    → option_or o (if same_identity entry.identity identity then Some entry.moment else None)
    ≡ Some last → P last) [
      | Some found ↦ λ found_is it. subst P (same_Some found last it)
          (last_holds P identity later
          (All-tail (λ (it : MemoryEntry). same_identity it.identity identity ≡ true → P it.moment)
          entry later all) found found_is)
      | None ↦ λ none it. elim (same_identity entry.identity identity) as (λ b. same_identity
          entry.identity identity ≡ b → (if b then Some entry.moment else None) ≡ Some last
          → P last) [
            | true ↦ λ same here. subst P (same_Some entry.moment last here)
                (All-head (λ (it : MemoryEntry). same_identity it.identity identity ≡ true
                → P it.moment) entry later all same)
            | false ↦ λ other here. cc
          ] refl it
    ] refl is

-- with one more entry in front, the last moment is recent exactly where it was, or where the
-- entry's is
recent_before : (same : Bool) (last : Option ℕ) (first moment : ℕ)
    → ((l : ℕ) → last ≡ Some l → first ≤ l)
    → ((same && ltb (moment - first) seconds_known) || is_recent_moment moment last)
    ≡ is_recent_moment moment (option_or last (if same then Some first else None))
recent_before true (Some l) first moment earlier =
    let before = earlier l refl in
    elim (ltb (moment - l) seconds_known) as (λ b. ltb (moment - l) seconds_known ≡ b
    → (ltb (moment - first) seconds_known || b) ≡ b) [
      | true ↦ λ e. or_right (ltb (moment - first) seconds_known) true refl
      | false ↦ λ e. let old = ltb-false (moment - l) seconds_known e in
          ap (λ b. b || false) (le-ltb (moment - first) seconds_known (omega arith))
    ] refl
recent_before true None first moment earlier = or_nothing (ltb (moment - first) seconds_known)
  where
    or_nothing : (b : Bool) → (b || false) ≡ b
    or_nothing true = refl
    or_nothing false = refl
recent_before false (Some l) first moment earlier = refl
recent_before false None first moment earlier = refl

-- one look at the last moment tells whether an identity is known
pub known_by_last : (identity : Identity) (moment : ℕ) (entries : List MemoryEntry)
    → AreInTurn entries → is_known identity moment entries
    ≡ is_recent_moment moment (moment_of_last identity entries)
known_by_last identity moment [] turn = refl
known_by_last identity moment (entry ∷ later) turn =
    let earlier : (l : ℕ) → moment_of_last identity later ≡ Some l → entry.moment ≤ l =
    last_holds (λ n. entry.moment ≤ n) identity later
    (λ k d below same. (turn.0 k d below).in_turn) in
    ap (λ b. is_recent identity moment entry || b) (known_by_last identity moment later turn.1)
    ∙ recent_before (same_identity entry.identity identity) (moment_of_last identity later)
    entry.moment moment earlier

-- with one more entry behind, the last moment of its identity is its own
moment_of_last-push : (identity : Identity) (entries : List MemoryEntry) (last : MemoryEntry)
    → moment_of_last identity (entries ++ last ∷ [])
    ≡ (if same_identity last.identity identity then Some last.moment else moment_of_last identity
    entries)
moment_of_last-push identity [] last = refl
moment_of_last-push identity (entry ∷ later) last =
    ap (λ o. option_or o (if same_identity entry.identity identity then Some entry.moment else
    None)) (moment_of_last-push identity later last)
    ∙ by_cases (same_identity last.identity identity) (moment_of_last identity later)
    (if same_identity entry.identity identity then Some entry.moment else None) last.moment
  where
    by_cases : (b : Bool) (o p : Option ℕ) (n : ℕ)
        → option_or (if b then Some n else o) p ≡ (if b then Some n else option_or o p)
    by_cases true o p n = refl
    by_cases false o p n = refl

-- a table without a moment is that of no entry
pub table-nil : IsTableOf [] (replicate 67600 None)
table-nil = record {
  size = length-replicate {A = Option ℕ} 67600 None;
  last =
      λ identity. get_or-replicate {A = Option ℕ} 67600 (index_of identity) None None
      (index_within identity);
}

-- a table with one more entry's moment is that with one more entry
option_or-none : (o : Option ℕ) → option_or o None ≡ o
option_or-none (Some n) = refl
option_or-none None = refl

other_index : (a b : Identity) → same_identity a b ≡ false → index_of b ≡ index_of a → ⊥
other_index a b other places = true≢false (sym (same_index a b (sym places)) ∙ other)

pub table-push : (entries : List MemoryEntry) (last : MemoryEntry) (moments : List (Option ℕ))
    → IsTableOf entries moments
    → IsTableOf (entries ++ last ∷ []) (set moments (index_of last.identity) (Some last.moment))
table-push entries last moments is = record {
  size = length-set moments (index_of last.identity) (Some last.moment) ∙ is.size;
  last = λ identity. at identity ∙ sym (moment_of_last-push identity entries last);
}
  where
    at : (identity : Identity)
        → get_or (set moments (index_of last.identity) (Some last.moment)) (index_of identity) None
        ≡ (if same_identity last.identity identity then Some last.moment else moment_of_last
        identity entries)
    at identity = elim (same_identity last.identity identity) as (λ b. same_identity last.identity
        identity ≡ b → get_or (set moments (index_of last.identity) (Some last.moment))
        (index_of identity) None ≡ (if b then Some last.moment else moment_of_last identity
        entries)) [
          | true ↦ λ same.
              ap (λ (it : Identity). get_or
              (set moments (index_of last.identity) (Some last.moment))
              (index_of it) None) (sym (same_identity-true last.identity identity same))
              ∙ get_or-set_same moments (index_of last.identity) (Some last.moment) None
              (subst (λ (n : ℕ). index_of last.identity < n) (sym is.size)
              (index_within last.identity))
          | false ↦ λ other.
              get_or-set_other moments (index_of last.identity) (index_of identity)
              (Some last.moment)
              None (other_index last.identity identity other)
              ∙ is.last identity
        ] refl

-- an identity whose last entry is later than the oldest one has a later moment than that
later_moment : (oldest : MemoryEntry) (later : List MemoryEntry) → All (IsLater oldest) later
    → (last : ℕ) → moment_of_last oldest.identity later ≡ Some last
    → oldest.moment + seconds_known ≤ last
later_moment oldest later all =
    last_holds (λ n. oldest.moment + seconds_known ≤ n) oldest.identity later (λ k d below same.
    (all k d below).apart (same_turned (slice_index_or later k d).identity oldest.identity same))

-- what stands at the place of the oldest entry's identity, and what is left there
left_there : (oldest : MemoryEntry) (later : List MemoryEntry) → All (IsLater oldest) later
    → (o : Option ℕ) → moment_of_last oldest.identity later ≡ o → (stands : Option ℕ)
    → stands ≡ option_or o (Some oldest.moment)
    → (if is_moment oldest.moment stands then None else stands) ≡ o
left_there oldest later all (Some last) is stands stood =
    let after : oldest.moment + seconds_known ≤ last = later_moment oldest later all last is in
    let other : eqb last oldest.moment ≡ false = ne_eqb last oldest.moment (λ e. omega arith) in
    rw (stood, other)
left_there oldest later all None is stands stood =
    rw (stood, eq-eqb oldest.moment oldest.moment refl)

-- a table without the moment of the oldest entry, where it is that one's, is that without the
-- oldest entry
abbrev pub table_without : List (Option ℕ) → MemoryEntry → List (Option ℕ)
table_without moments oldest =
    if holds_moment moments oldest then set moments (index_of oldest.identity) None else moments

table_without-size : (moments : List (Option ℕ)) (oldest : MemoryEntry)
    → length (table_without moments oldest) ≡ length moments
table_without-size moments oldest =
    elim (holds_moment moments oldest) as (λ b. length
    (if b then set moments (index_of oldest.identity) None else moments) ≡ length moments) [
      | true ↦ length-set moments (index_of oldest.identity) None
      | false ↦ refl
    ]

table_without-other : (moments : List (Option ℕ)) (oldest : MemoryEntry) (place : ℕ)
    → place ≢ index_of oldest.identity
    → get_or (table_without moments oldest) place None ≡ get_or moments place None
table_without-other moments oldest place other =
    elim (holds_moment moments oldest) as (λ b. get_or
    (if b then set moments (index_of oldest.identity) None else moments) place None
    ≡ get_or moments place None) [
      | true ↦ get_or-set_other moments (index_of oldest.identity) place None None other
      | false ↦ refl
    ]

table_without-there : (moments : List (Option ℕ)) (oldest : MemoryEntry)
    → index_of oldest.identity < length moments
    → get_or (table_without moments oldest) (index_of oldest.identity) None
    ≡ (if holds_moment moments oldest then None else get_or moments (index_of oldest.identity) None)
table_without-there moments oldest within =
    elim (holds_moment moments oldest) as (λ b. get_or
    (if b then set moments (index_of oldest.identity) None else moments) (index_of oldest.identity)
    None ≡ (if b then None else get_or moments (index_of oldest.identity) None)) [
      | true ↦ get_or-set_same moments (index_of oldest.identity) None None within
      | false ↦ refl
    ]

pub table-drop : (oldest : MemoryEntry) (later : List MemoryEntry) (moments : List (Option ℕ))
    → AreInTurn (oldest ∷ later) → IsTableOf (oldest ∷ later) moments
    → IsTableOf later (table_without moments oldest)
table-drop oldest later moments turn is = record {
  size = table_without-size moments oldest ∙ is.size;
  last = at;
}
  where
    at_oldest : get_or (table_without moments oldest) (index_of oldest.identity) None
        ≡ moment_of_last oldest.identity later
    at_oldest =
        table_without-there moments oldest
        (subst (λ (n : ℕ). index_of oldest.identity < n) (sym is.size)
        (index_within oldest.identity))
        ∙ left_there oldest later turn.0 (moment_of_last oldest.identity later) refl
        (get_or moments (index_of oldest.identity) None)
        (is.last oldest.identity ∙ ap
        (λ b. option_or (moment_of_last oldest.identity later)
        (if b then Some oldest.moment else None)) (same_itself oldest.identity))

    at : (identity : Identity)
        → get_or (table_without moments oldest) (index_of identity) None
        ≡ moment_of_last identity later
    at identity = elim (same_identity oldest.identity identity) as (λ b. same_identity
        oldest.identity identity ≡ b
        → get_or (table_without moments oldest) (index_of identity) None
        ≡ moment_of_last identity later) [
          | true ↦ λ same.
              subst (λ (it : Identity). get_or (table_without moments oldest) (index_of it) None
              ≡ moment_of_last it later) (same_identity-true oldest.identity identity same)
              at_oldest
          | false ↦ λ other.
              table_without-other moments oldest (index_of identity)
              (other_index oldest.identity identity other)
              ∙ is.last identity
              ∙ ap (λ b. option_or (moment_of_last identity later)
              (if b then Some oldest.moment else None)) other
              ∙ option_or-none (moment_of_last identity later)
        ] refl

-- a table after an entry, where the ring gave one up or didn't
abbrev pub table_given_up : Option MemoryEntry → List (Option ℕ) → List (Option ℕ)
table_given_up None moments = moments
table_given_up (Some oldest) moments = table_without moments oldest

-- so it is that of the last 200 after one more was entered
with_room : (entries : List MemoryEntry) (last : MemoryEntry) → length entries < most_entries
    → last_of most_entries (entries ++ last ∷ []) ≡ entries ++ last ∷ []
with_room entries last room =
    let none : length (entries ++ last ∷ []) - most_entries ≡ 0 =
    omega (arith, length-append entries (last ∷ [])) in
    ap (λ n. drop n (entries ++ last ∷ [])) none

without_oldest : (oldest last : MemoryEntry) (later : List MemoryEntry)
    → length (oldest ∷ later) ≡ most_entries
    → last_of most_entries (oldest ∷ later ++ last ∷ []) ≡ later ++ last ∷ []
without_oldest oldest last later full =
    let one : length (oldest ∷ later ++ last ∷ []) - most_entries ≡ 1 =
    omega (arith, length-append (oldest ∷ later) (last ∷ [])) in
    ap (λ n. drop n (oldest ∷ later ++ last ∷ [])) one

table-full : (entries : List MemoryEntry) (last : MemoryEntry) (moments : List (Option ℕ))
    → length entries ≡ most_entries → AreInTurn entries → IsTableOf entries moments
    → IsTableOf (last_of most_entries (entries ++ last ∷ []))
    (set (table_given_up (slice_get (entries ++ last ∷ []) 0) moments) (index_of last.identity)
    (Some last.moment))
table-full [] last moments full turn is = absurd (omega arith)
table-full (oldest ∷ later) last moments full turn is =
    subst (λ (it : List MemoryEntry). IsTableOf it
    (set (table_without moments oldest) (index_of last.identity) (Some last.moment)))
    (sym (without_oldest oldest last later full))
    (table-push later last (table_without moments oldest) (table-drop oldest later moments turn is))

pub table-entered : (entries : List MemoryEntry) (last : MemoryEntry) (moments : List (Option ℕ))
    (fallen : Option MemoryEntry) → length entries ≤ most_entries → AreInTurn entries
    → IsTableOf entries moments
    → fallen ≡ (if ltb (length entries) most_entries then None else slice_get (entries ++ last ∷ [])
    0) → IsTableOf (last_of most_entries (entries ++ last ∷ []))
    (set (table_given_up fallen moments) (index_of last.identity) (Some last.moment))
table-entered entries last moments fallen bounded turn is fell =
    elim (cases_lt (length entries) most_entries) [
      | inl room ↦
          let nothing : fallen ≡ None =
          fell ∙ ap (λ b. if b then None else slice_get (entries ++ last ∷ []) 0)
          (lt-ltb (length entries) most_entries room) in
          rw (nothing, with_room entries last room) (table-push entries last moments is)
      | inr full ↦
          let oldest : fallen ≡ slice_get (entries ++ last ∷ []) 0 =
          fell ∙ ap (λ b. if b then None else slice_get (entries ++ last ∷ []) 0)
          (le-ltb (length entries) most_entries full) in
          rw oldest (table-full entries last moments (omega arith) turn is)
    ]

-- what only no moment is, no moment is
pub none_from : (P : Option ℕ → Type 0) → ((n : ℕ) → P (Some n) → ⊥) → (o : Option ℕ) → P o
    → o ≡ None
none_from P never (Some n) holds = absurd (never n holds)
none_from P never None holds = refl
