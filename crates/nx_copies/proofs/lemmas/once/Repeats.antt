-- The law of printing once.
use Rattle.std.proofs.Common.{◌≡◌, ℕ, ◌+◌, ◌<◌, Bool, true, false, cond, List, [], ◌∷◌, ◌++◌}
use Rattle.std.proofs.Common.{length, filter, refl, sym, ap, ap₂, ◌∙◌, subst, arith, append_assoc}
use Rattle.std.proofs.Common.{append-nil, IsTrue}
use Rattle.std.specs.List.{All, Contains}
use Rattle.std.proofs.lemmas.Bool.{false_from_ne_true, true≢false, ne_eqb}
use Rattle.std.proofs.lemmas.List.Elements.{All-head, All-tail, All-nil, All-cons, All-append, All-contains}
use Rattle.std.proofs.lemmas.List.Elements.{filter-append, Contains-append_right}
use Rattle.nx_envelope.specs.declared.identity.Identity.{Identity}
use Rattle.nx_envelope.specs.Identity.{same_identity}
use Rattle.nx_memory.specs.declared.memories.entry.MemoryEntry.{MemoryEntry}
use Rattle.nx_memory.specs.Memory.{IsLive, most_entries, seconds_known}
use Rattle.nx_envelope.proofs.lemmas.headers.Identities.{same_identity-true, same_itself}
use Rattle.nx_memory.proofs.lemmas.Known.{known_from_live, live_from_known}
use Rattle.nx_copies.specs.copies.FoundCopies.{TaggedCopy}
use Rattle.nx_copies.specs.copies.Printing.{is_good, is_number_00, is_remembered, is_printed, is_entered}
use Rattle.nx_copies.specs.copies.Printing.{entry_of, entry_made, entries_made, entries_after}
use Rattle.nx_copies.specs.copies.Printing.{if_printed, printed_copies, copies_of}
use Rattle.nx_copies.specs.laws.LawTerms.{AreRepeats}
use Rattle.nx_copies.specs.laws.Once.{IsUnknownAtFirst}
use Rattle.nx_copies.proofs.lemmas.printing.Judging.{remembered, unknown, entered}
use Rattle.nx_copies.proofs.lemmas.printing.Logged.{printed_copies-append, entries_after-append}

abbrev pub bears : Identity → TaggedCopy → Bool
bears identity copy = same_identity copy.identity identity

-- the entries after one more copy
one_after : (entries : List MemoryEntry) (mid : List TaggedCopy) (c : TaggedCopy)
    → entries_after entries (mid ++ c ∷ [])
    ≡ entries_after entries mid ++ entry_made (entries_after entries mid) c
unfolding entries_made
one_after entries mid c =
    entries_after-append entries mid (c ∷ [])
    ∙ ap (λ es. entries_after entries mid ++ es)
    (append-nil (entry_made (entries_after entries mid) c))

-- no entry of these bears the identity
abbrev pub Lacks : Identity → List MemoryEntry → Type 0
Lacks identity entries = All
    (λ (entry : MemoryEntry). same_identity entry.identity identity ≡ false) entries

-- the list up to its first copy of the identity
pub record Split (identity : Identity) (copies : List TaggedCopy) (first : TaggedCopy)
    (repeats : List TaggedCopy) : Type 0 where
  pub before : List TaggedCopy
  pub after : List TaggedCopy
  pub whole : copies ≡ before ++ first ∷ after
  pub none : copies_of identity before ≡ []
  pub named : same_identity first.identity identity ≡ true
  pub rest : copies_of identity after ≡ repeats

pub split : (identity : Identity) (copies : List TaggedCopy) (first : TaggedCopy)
    (repeats : List TaggedCopy) → copies_of identity copies ≡ first ∷ repeats
    → Split identity copies first repeats
unfolding copies_of
split identity [] first repeats e = cc
split identity (c ∷ copies) first repeats e =
    elim (bears identity c) as (λ (b : Bool). bears identity c ≡ b
    → cond b (c ∷ filter (bears identity) copies) (filter (bears identity) copies)
    ≡ first ∷ repeats → Split identity (c ∷ copies) first repeats) [
      | true ↦ λ h e.
          let same : c ≡ first = cc in
          record {
            before = [];
            after = copies;
            whole = ap (λ x. x ∷ copies) same;
            none =
                refl;
            named = ap (bears identity) (sym same) ∙ h;
            rest = cc;
          }
      | false ↦ λ h e.
          let s = split identity copies first repeats e in
          record {
            before = c ∷ s.before;
            after = s.after;
            whole = ap (λ xs. c ∷ xs) s.whole;
            none =
                ap (λ b. cond b (c ∷ filter (bears identity) s.before)
                (filter (bears identity) s.before)) h ∙ s.none;
            named = s.named;
            rest = s.rest;
          }
    ] refl e

-- what bears another name makes no entry of the identity
pub made_lacks : (identity : Identity) (entries : List MemoryEntry) (copy : TaggedCopy)
    → bears identity copy ≡ false → Lacks identity (entry_made entries copy)
unfolding entry_made
made_lacks identity entries copy h =
    elim (is_entered entries copy) as (λ (b : Bool). Lacks identity
    (cond b (entry_of copy ∷ []) [])) [
      | true ↦ All-cons (λ (entry : MemoryEntry). same_identity entry.identity identity ≡ false)
          (entry_of copy) [] h (All-nil
          (λ (entry : MemoryEntry). same_identity entry.identity identity ≡ false))
      | false ↦ All-nil (λ (entry : MemoryEntry). same_identity entry.identity identity ≡ false)
    ]

-- one that isn't there, and the rest
pub none_first : (identity : Identity) (c : TaggedCopy) (copies : List TaggedCopy)
    → copies_of identity (c ∷ copies) ≡ []
    → (bears identity c ≡ false) × (copies_of identity copies ≡ [])
unfolding copies_of
none_first identity c copies e =
    elim (bears identity c) as (λ (b : Bool). bears identity c ≡ b
    → cond b (c ∷ filter (bears identity) copies) (filter (bears identity) copies) ≡ []
    → (bears identity c ≡ false) × (filter (bears identity) copies ≡ [])) [
      | true ↦ λ h e. cc
      | false ↦ λ h e. (h, e)
    ] refl e

before_lacks : (identity : Identity) (entries : List MemoryEntry) (copies : List TaggedCopy)
    → copies_of identity copies ≡ [] → Lacks identity entries
    → Lacks identity (entries_after entries copies)
unfolding entries_made
before_lacks identity entries [] e k = subst (Lacks identity) (sym (append-nil entries)) k
before_lacks identity entries (c ∷ copies) e k =
    let parts = none_first identity c copies e in
    subst (Lacks identity) (append_assoc entries (entry_made entries c) _)
    (before_lacks identity (entries ++ entry_made entries c) copies parts.1
    (All-append (λ (entry : MemoryEntry). same_identity entry.identity identity ≡ false) entries
    (entry_made entries c) k (made_lacks identity entries c parts.0)))

-- what is printed of all has what all have
pub all_printed : (P : TaggedCopy → Type 0) (entries : List MemoryEntry) (copies : List TaggedCopy)
    → All P copies → All P (printed_copies entries copies)
unfolding printed_copies if_printed
all_printed P entries [] all = All-nil P
all_printed P entries (copy ∷ copies) all =
    let rest = all_printed P (entries ++ entry_made entries copy) copies
    (All-tail P copy copies all)
    in
    elim (is_printed entries copy) as (λ b. All P
    (cond b (copy ∷ []) [] ++ printed_copies (entries ++ entry_made entries copy) copies)) [
      | true ↦ All-cons P copy _ (All-head P copy copies all) rest
      | false ↦ rest
    ]

-- copies of other identities print none of it
pub before_prints : (identity : Identity) (entries : List MemoryEntry) (copies : List TaggedCopy)
    → copies_of identity copies ≡ [] → copies_of identity (printed_copies entries copies) ≡ []
unfolding printed_copies if_printed copies_of
before_prints identity entries [] e = refl
before_prints identity entries (c ∷ copies) e =
    let parts = none_first identity c copies e in
    let rest = before_prints identity (entries ++ entry_made entries c) copies parts.1 in
    elim (is_printed entries c) as (λ (b : Bool). filter (bears identity)
    (cond b (c ∷ []) [] ++ printed_copies (entries ++ entry_made entries c) copies) ≡ []) [
      | true ↦ ap (λ b. cond b (c
          ∷ filter (bears identity) (printed_copies (entries ++ entry_made entries c) copies))
          (filter (bears identity) (printed_copies (entries ++ entry_made entries c) copies)))
          parts.0 ∙ rest
      | false ↦ rest
    ]

same_of : (a b : Identity) → a ≡ b → same_identity a b ≡ true
same_of a b e = subst (λ (x : Identity). same_identity a x ≡ true) e (same_itself a)

-- where no entry bears the identity, none is live
lacks_live : (identity : Identity) (moment : ℕ) (entries : List MemoryEntry)
    → Lacks identity entries → IsLive identity moment entries → ⊥
lacks_live identity moment entries k live =
    let there = All-contains (λ (entry : MemoryEntry). same_identity entry.identity identity
    ≡ false) entries live.entry k
    (subst (λ (es : List MemoryEntry). Contains es live.entry) (sym live.made)
    (Contains-append_right live.before (live.entry ∷ live.after) live.entry
    (0, omega arith, refl))) in
    true≢false (sym (same_of live.entry.identity identity live.same) ∙ there)

-- so after an empty first list none is live at the first copy of the identity
pub none_live : (identity : Identity) (copies : List TaggedCopy)
    → IsUnknownAtFirst [] identity copies
none_live identity copies before after first whole none named =
    false_from_ne_true _ (λ known. lacks_live identity first.moment (entries_after [] before)
    (before_lacks identity [] before none
    (All-nil (λ (entry : MemoryEntry). same_identity entry.identity identity ≡ false)))
    (subst (λ (i : Identity). IsLive i first.moment (entries_after [] before))
    (same_identity-true first.identity identity named)
    (live_from_known first.identity first.moment (entries_after [] before) known)))

-- the entry of the first keeps each later copy from being printed
record IsKept (identity : Identity) (entries : List MemoryEntry) (first : TaggedCopy)
    (mid : List TaggedCopy) (copy : TaggedCopy) : Type 0 where
  recent : copy.moment < first.moment + seconds_known
  few : length (entries_made (entries ++ entry_of first ∷ []) mid) < most_entries

kept_back : (identity : Identity) (entries : List MemoryEntry) (first : TaggedCopy)
    (mid : List TaggedCopy) (copy : TaggedCopy) → 0 < identity.number
    → same_identity first.identity identity ≡ true → same_identity copy.identity identity ≡ true
    → IsKept identity entries first mid copy
    → is_printed (entries_after (entries ++ entry_of first ∷ []) mid) copy ≡ false
kept_back identity entries first mid copy n f h k =
    let made = entries_made (entries ++ entry_of first ∷ []) mid in
    let named = same_identity-true copy.identity identity h in
    let numbered : is_number_00 copy ≡ false =
    ne_eqb copy.identity.number 0
    (λ e. absurd (omega (arith, n, ap (λ (x : Identity). x.number) named, e))) in
    let live : IsLive copy.identity copy.moment
    (entries_after (entries ++ entry_of first ∷ []) mid) = record {
      before = entries;
      entry = entry_of first;
      after = made;
      made = append_assoc entries (entry_of first ∷ []) made;
      same = same_identity-true first.identity identity f ∙ sym named;
      recent = k.recent;
      few_after = k.few;
    } in
    remembered _ copy numbered (known_from_live copy.identity copy.moment _ live)

after_prints : (identity : Identity) (entries : List MemoryEntry) (first : TaggedCopy)
    (mid rest : List TaggedCopy) → 0 < identity.number
    → same_identity first.identity identity ≡ true
    → ((more after : List TaggedCopy) (copy : TaggedCopy) → rest ≡ more ++ copy ∷ after
    → same_identity copy.identity identity ≡ true
    → IsKept identity entries first (mid ++ more) copy)
    → copies_of identity (printed_copies (entries_after (entries ++ entry_of first ∷ []) mid) rest)
    ≡ []
unfolding printed_copies if_printed copies_of
after_prints identity entries first mid [] n f k = refl
after_prints identity entries first mid (c ∷ rest) n f k =
    let so_far = entries_after (entries ++ entry_of first ∷ []) mid in
    let next : entries_after (entries ++ entry_of first ∷ []) (mid ++ c ∷ [])
    ≡ so_far ++ entry_made so_far c = one_after (entries ++ entry_of first ∷ []) mid c in
    let later : filter (bears identity) (printed_copies (so_far ++ entry_made so_far c) rest) ≡ [] =
    ap (λ es. filter (bears identity) (printed_copies es rest)) (sym next)
    ∙ after_prints identity entries first (mid ++ c ∷ []) rest n f
    (λ more after copy e h. subst
    (λ (m : List TaggedCopy). IsKept identity entries first m copy)
    (sym (append_assoc mid (c ∷ []) more)) (k (c ∷ more) after copy (ap (λ xs. c ∷ xs) e) h)) in
    let not_this : bears identity c ≡ true → is_printed so_far c ≡ false =
    λ h. kept_back identity entries first mid c n f h
    (subst (λ (m : List TaggedCopy). IsKept identity entries first m c) (append-nil mid)
    (k [] rest c refl h)) in
    elim (is_printed so_far c) as (λ (b : Bool). is_printed so_far c ≡ b
    → filter (bears identity)
    (cond b (c ∷ []) [] ++ printed_copies (so_far ++ entry_made so_far c) rest) ≡ []) [
      | true ↦ λ p.
          let other : bears identity c ≡ false =
          false_from_ne_true _ (λ h. true≢false (sym p ∙ not_this h)) in
          ap (λ b. cond b (c ∷ filter (bears identity)
          (printed_copies (so_far ++ entry_made so_far c) rest))
          (filter (bears identity) (printed_copies (so_far ++ entry_made so_far c) rest))) other
          ∙ later
      | false ↦ λ p. later
    ] refl

-- a copy of the identity is among those that are counted
there : (identity : Identity) (all repeats more after : List TaggedCopy) (first copy : TaggedCopy)
    → copies_of identity all ≡ repeats → all ≡ more ++ copy ∷ after
    → same_identity copy.identity identity ≡ true → Contains (first ∷ repeats) copy
unfolding copies_of
there identity all repeats more after first copy counted e h =
    let kept : repeats ≡ filter (bears identity) more ++ copy ∷ filter (bears identity) after =
    sym counted ∙ ap (filter (bears identity)) e
    ∙ filter-append (bears identity) more (copy ∷ after)
    ∙ ap (λ b. filter (bears identity) more
    ++ cond b (copy ∷ filter (bears identity) after) (filter (bears identity) after)) h in
    subst (λ (xs : List TaggedCopy). Contains (first ∷ xs) copy) (sym kept)
    (Contains-append_right (first ∷ filter (bears identity) more)
    (copy ∷ filter (bears identity) after) copy (0, omega arith, refl))

pub once : (start : List MemoryEntry) (identity : Identity) (copies : List TaggedCopy)
    (first : TaggedCopy) (repeats : List TaggedCopy)
    → AreRepeats start identity copies first repeats
    → copies_of identity (printed_copies start copies) ≡ first ∷ []
unfolding copies_of printed_copies if_printed entries_made
once start identity copies first repeats r =
    let s = split identity copies first repeats r.heard in
    let entries = entries_after start s.before in
    let numbered : is_number_00 first ≡ false =
    ne_eqb first.identity.number 0
    (λ e. absurd (omega (
      arith,
      r.numbered,
      ap (λ (x : Identity). x.number)
          (same_identity-true first.identity identity s.named),
      e,
    ))) in
    let selected = All-head (λ (copy : TaggedCopy). IsTrue copy.selected) first repeats
    r.selected in
    let good = All-head (λ (copy : TaggedCopy). IsTrue (is_good copy)) first repeats r.good in
    let new : is_remembered entries first ≡ false =
    r.unknown s.before s.after first s.whole s.none s.named in
    let shown = unknown entries first selected new in
    let made = entered entries first shown good numbered in
    let begun : entries_after start (s.before ++ first ∷ []) ≡ entries ++ entry_of first ∷ [] =
    one_after start s.before first ∙ ap (λ m. entries ++ m) made in
    let later = after_prints identity entries first [] s.after r.numbered s.named
    (λ more after copy e h. record {
      recent = r.close copy first (there identity s.after repeats more after first copy s.rest e h)
          (0, omega arith, refl);
      few = subst (λ (es : List MemoryEntry). length (entries_made es more) < most_entries) begun
          (r.few s.before more after first copy (s.whole ∙ ap (λ xs. s.before ++ first ∷ xs) e)
          s.none s.named h);
    }) in
    let rest = printed_copies (entries ++ entry_made entries first) s.after in
    ap (λ cs. filter (bears identity) (printed_copies start cs)) s.whole
    ∙ ap (filter (bears identity)) (printed_copies-append start s.before (first ∷ s.after))
    ∙ filter-append (bears identity) (printed_copies start s.before)
    (printed_copies entries (first ∷ s.after))
    ∙ ap (λ xs. xs ++ filter (bears identity) (printed_copies entries (first ∷ s.after)))
    (before_prints identity start s.before s.none)
    ∙ ap (λ b. filter (bears identity) (cond b (first ∷ []) [] ++ rest)) shown
    ∙ ap (λ b. cond b (first ∷ filter (bears identity) rest) (filter (bears identity) rest)) s.named
    ∙ ap (λ es. first ∷ filter (bears identity) (printed_copies es s.after))
    (ap (λ m. entries ++ m) made ∙ sym (append-nil (entries ++ entry_of first ∷ [])))
    ∙ ap (λ xs. first ∷ xs) later
