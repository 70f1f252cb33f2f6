-- Which copies of an identity are printed: none where none is heard, and none where an entry of it
-- stays live.
use Rattle.std.proofs.Common.{◌≡◌, ℕ, ◌+◌, ◌<◌, ◌≤◌, Bool, true, false, cond, List, []}
use Rattle.std.proofs.Common.{◌∷◌, ◌++◌, filter, length, map, refl, sym, ap, ◌∙◌, arith, append_assoc}
use Rattle.std.specs.List.{All}
use Rattle.std.proofs.lemmas.Bool.{false_from_ne_true, ne_eqb, true≢false}
use Rattle.std.proofs.lemmas.List.{length-append}
use Rattle.std.proofs.lemmas.List.Elements.{All-cons, All-head, All-nil, All-tail}
use Rattle.nx_envelope.specs.Identity.{same_identity}
use Rattle.nx_envelope.specs.declared.identity.Identity.{Identity}
use Rattle.nx_envelope.proofs.lemmas.headers.Identities.{same_identity-true}
use Rattle.nx_memory.specs.Memory.{IsLive, most_entries, seconds_known}
use Rattle.nx_memory.specs.declared.memories.entry.MemoryEntry.{MemoryEntry}
use Rattle.nx_memory.proofs.lemmas.Known.{known_from_live}
use Rattle.nx_log.specs.Logged.{is_memorable, memory_entries}
use Rattle.nx_copies.specs.copies.FoundCopies.{TaggedCopy}
use Rattle.nx_copies.specs.copies.Printing.{copies_of, entries_made, entry_made, entry_of, if_printed}
use Rattle.nx_copies.specs.copies.Printing.{is_number_00, is_printed, printed_copies}
use Rattle.nx_copies.proofs.lemmas.printing.Judging.{remembered}
use Rattle.nx_left_on.proofs.lemmas.entries.Climbing.{Climbs}
use Rattle.nx_copies.proofs.lemmas.once.Repeats.{all_printed, none_first, bears}

-- ---- lists

-- where the first isn't one of them, and where it is
pub other-first : (identity : Identity) (copy : TaggedCopy) (copies : List TaggedCopy)
    → bears identity copy ≡ false → copies_of identity (copy ∷ copies) ≡ copies_of identity copies
unfolding copies_of
other-first identity copy copies h =
    ap (λ b. cond b (copy ∷ filter (bears identity) copies) (filter (bears identity) copies)) h

pub one-first : (identity : Identity) (copy : TaggedCopy) (copies : List TaggedCopy)
    → bears identity copy ≡ true
    → copies_of identity (copy ∷ copies) ≡ copy ∷ copies_of identity copies
unfolding copies_of
one-first identity copy copies h =
    ap (λ b. cond b (copy ∷ filter (bears identity) copies) (filter (bears identity) copies)) h

-- and so have the entries that are kept of them
pub all-kept : (P : MemoryEntry → Type 0) (copies : List TaggedCopy)
    → All (λ copy. P (entry_of copy)) copies → All P (memory_entries copies)
unfolding memory_entries
all-kept P [] all = All-nil P
all-kept P (copy ∷ copies) all =
    let rest = all-kept P copies
    (All-tail (λ (it : TaggedCopy). P (entry_of it)) copy copies all) in
    elim (is_memorable copy) as (λ b. All P
    (map entry_of (cond b (copy ∷ filter is_memorable copies) (filter is_memorable copies)))) [
      | true ↦ All-cons P (entry_of copy) _
          (All-head (λ (it : TaggedCopy). P (entry_of it)) copy copies all) rest
      | false ↦ rest
    ]

-- none of them bears the identity
pub all-other : (identity : Identity) (copies : List TaggedCopy) → copies_of identity copies ≡ []
    → All (λ copy. bears identity copy ≡ false) copies
all-other identity [] e = All-nil (λ (copy : TaggedCopy). bears identity copy ≡ false)
all-other identity (copy ∷ copies) e =
    let parts = none_first identity copy copies e in
    All-cons (λ (it : TaggedCopy). bears identity it ≡ false) copy copies parts.0
    (all-other identity copies parts.1)

-- all copies from this moment on, where they climb
pub all-climb : (m : ℕ) (copies : List TaggedCopy) → Climbs m copies
    → All (λ copy. m ≤ copy.moment) copies
all-climb m copies climbs = climb-from m m copies (omega arith) climbs
  where
    climb-from : (m n : ℕ) (copies : List TaggedCopy) → m ≤ n → Climbs n copies
        → All (λ copy. m ≤ copy.moment) copies
    climb-from m n [] le climbs = All-nil (λ (copy : TaggedCopy). m ≤ copy.moment)
    climb-from m n (copy ∷ copies) le climbs =
        All-cons (λ (it : TaggedCopy). m ≤ it.moment) copy copies (omega (arith, le, climbs.0))
        (climb-from m copy.moment copies (omega (arith, le, climbs.0)) climbs.1)

pub climbs-behind : (m : ℕ) (front back : List TaggedCopy) (copy : TaggedCopy)
    → Climbs m (front ++ copy ∷ back) → Climbs copy.moment back
climbs-behind m [] back copy climbs = climbs.1
climbs-behind m (x ∷ front) back copy climbs = climbs-behind x.moment front back copy climbs.1

-- ---- an entry that stays live

-- Each copy of the identity among these comes while the entry is live, behind which these stand at
-- first.
abbrev pub AllFind : Identity → MemoryEntry → List MemoryEntry → List MemoryEntry
    → List TaggedCopy → Type 0
AllFind identity entry entries behind copies =
    (before after : List TaggedCopy) (copy : TaggedCopy) → copies ≡ before ++ copy ∷ after
    → bears identity copy ≡ true
    → (copy.moment < entry.moment + seconds_known)
    × (length behind + length (entries_made entries before) < most_entries)

not-printed : (identity : Identity) (entry : MemoryEntry) (entries front behind : List MemoryEntry)
    (copy : TaggedCopy) → 0 < identity.number → entry.identity ≡ identity
    → entries ≡ front ++ entry ∷ behind → bears identity copy ≡ true
    → copy.moment < entry.moment + seconds_known → length behind < most_entries
    → is_printed entries copy ≡ false
not-printed identity entry entries front behind copy numbered named is bearing recent few =
    let same = same_identity-true copy.identity identity bearing in
    let not_00 : is_number_00 copy ≡ false =
    ne_eqb copy.identity.number 0
    (λ e. absurd (omega (arith, numbered, ap (λ (x : Identity). x.number) same, e))) in
    let live : IsLive copy.identity copy.moment entries = record {
      before = front;
      entry = entry;
      after = behind;
      made = is;
      same = named ∙ sym same;
      recent = recent;
      few_after = few;
    } in
    remembered entries copy not_00 (known_from_live copy.identity copy.moment entries live)

-- so none of them is printed
pub kept-back : (identity : Identity) (entry : MemoryEntry)
    (entries front behind : List MemoryEntry) (copies : List TaggedCopy)
    → 0 < identity.number → entry.identity ≡ identity → entries ≡ front ++ entry ∷ behind
    → AllFind identity entry entries behind copies
    → copies_of identity (printed_copies entries copies) ≡ []
unfolding printed_copies if_printed entries_made copies_of
kept-back identity entry entries front behind [] numbered named is find = refl
kept-back identity entry entries front behind (copy ∷ copies) numbered named is find =
    let made = entry_made entries copy in
    let next = entries ++ made in
    let rest : copies_of identity (printed_copies next copies) ≡ [] =
    kept-back identity entry next front (behind ++ made) copies numbered named
    (ap (λ l. l ++ made) is ∙ append_assoc front (entry ∷ behind) made)
    (λ before after other e bearing.
    let f = find (copy ∷ before) after other (ap (λ l. copy ∷ l) e) bearing in (
      f.0,
      omega (
        arith,
        f.1,
        length-append made (entries_made next before),
        length-append behind made,
      ),
    )) in
    let not_this : bears identity copy ≡ true → is_printed entries copy ≡ false =
    λ bearing.
    let f = find [] copies copy refl bearing in
    not-printed identity entry entries front behind copy numbered named is bearing f.0
    (omega (arith, f.1)) in
    elim (is_printed entries copy) as (λ b. is_printed entries copy ≡ b
    → filter (bears identity) (cond b (copy ∷ []) [] ++ printed_copies next copies) ≡ []) [
      | true ↦ λ printed.
          let other : bears identity copy ≡ false =
          false_from_ne_true _ (λ bearing. true≢false (sym printed ∙ not_this bearing)) in
          other-first identity copy (printed_copies next copies) other ∙ rest
      | false ↦ λ printed. rest
    ] refl
