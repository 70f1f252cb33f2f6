-- What a memory can hold is kept by copies whose moments never fall.
use Rattle.std.proofs.Common.{◌≡◌, ℕ, zero, suc, ◌<◌, ◌≤◌, ◌==◌, Bool, true, false, not, ◌&&◌, ◌||◌, cond, List, []}
use Rattle.std.proofs.Common.{◌∷◌, ◌++◌, refl, sym, subst, arith, append-nil, append_assoc}
use Rattle.std.proofs.lemmas.Bool.{and_parts, not-true}
use Rattle.nx_code.specs.Lists.{last_of}
use Rattle.nx_memory.specs.Content.{IsContent}
use Rattle.nx_memory.specs.Memory.{content_after, most_entries, newest_moment}
use Rattle.nx_memory.specs.declared.memories.entry.MemoryEntry.{MemoryEntry}
use Rattle.nx_memory.proofs.lemmas.Content.{content_after-IsContent}
use Rattle.nx_copies.specs.copies.FoundCopies.{TaggedCopy}
use Rattle.nx_copies.specs.copies.Printing.{entries_after, entries_made, entry_made, entry_of, is_entered}
use Rattle.nx_copies.specs.copies.Printing.{is_good, is_number_00, is_printed, is_remembered}
use Rattle.nx_copies.proofs.lemmas.printing.Judging.{content_grows, newest_is_last}
use Rattle.nx_left_on.proofs.lemmas.entries.Climbing.{Climbs}

-- the last of the entries are what a memory can hold, and none is later than this moment
pub record HoldsAt (entries : List MemoryEntry) (moment : ℕ) : Type 0 where
  pub content : IsContent (last_of most_entries entries)
  pub newest : newest_moment (last_of most_entries entries) ≤ moment

-- a copy that is entered: it wasn't known, and isn't numbered 00
record IsNew (entries : List MemoryEntry) (copy : TaggedCopy) : Type 0 where
  unknown : is_remembered entries copy ≡ false
  numbered : 0 < copy.identity.number

not-known : (zeros known : Bool) → zeros ≡ false → (zeros || not known) ≡ true → known ≡ false
not-known true known z h = cc
not-known false true z h = cc
not-known false false z h = refl

not-zero : (n : ℕ) (b : Bool) → (n == 0) ≡ b → not b ≡ true → 0 < n
not-zero zero true e h = cc
not-zero zero false e h = cc
not-zero (suc n) b e h = omega arith

entered-new : (entries : List MemoryEntry) (copy : TaggedCopy) → is_entered entries copy ≡ true
    → IsNew entries copy
unfolding is_entered is_printed
entered-new entries copy h =
    let outer = and_parts (is_printed entries copy && is_good copy) (not (is_number_00 copy)) h in
    let inner = and_parts (is_printed entries copy) (is_good copy) outer.0 in
    let printed = and_parts copy.selected
    (is_number_00 copy || not (is_remembered entries copy)) inner.0 in
    record {
      unknown = not-known (is_number_00 copy) (is_remembered entries copy)
          (not-true (is_number_00 copy) outer.1) printed.1;
      numbered = not-zero copy.identity.number (is_number_00 copy) refl outer.1;
    }

grown : (entries : List MemoryEntry) (copy : TaggedCopy) → HoldsAt entries copy.moment
    → IsNew entries copy → HoldsAt (entries ++ entry_of copy ∷ []) copy.moment
grown entries copy h new =
    let content = last_of most_entries entries in
    let next = content_after content copy.identity copy.moment in
    let is : next ≡ last_of most_entries (entries ++ entry_of copy ∷ []) =
    content_grows entries (entry_of copy ∷ []) content next (entry_of copy) refl refl refl in
    record {
      content = subst IsContent is
          (content_after-IsContent content copy.identity copy.moment h.content h.newest new.unknown
          new.numbered);
      newest = subst (λ (es : List MemoryEntry). newest_moment es ≤ copy.moment) is
          (newest_is_last content next copy.identity copy.moment refl);
    }

one-entered : (entries : List MemoryEntry) (copy : TaggedCopy) → HoldsAt entries copy.moment
    → HoldsAt (entries ++ entry_made entries copy) copy.moment
unfolding entry_made
one-entered entries copy h =
    elim (is_entered entries copy) as (λ (b : Bool). is_entered entries copy ≡ b
    → HoldsAt (entries ++ cond b (entry_of copy ∷ []) []) copy.moment) [
      | true ↦ λ is. grown entries copy h (entered-new entries copy is)
      | false ↦ λ is.
          subst (λ (es : List MemoryEntry). HoldsAt es copy.moment) (sym (append-nil entries)) h
    ] refl

later-holds : (entries : List MemoryEntry) (m n : ℕ) → m ≤ n → HoldsAt entries m
    → HoldsAt entries n
later-holds entries m n le h =
    record { content = h.content; newest = omega (arith, le, h.newest) }

pub content-after : (entries : List MemoryEntry) (m : ℕ) (copies : List TaggedCopy)
    → HoldsAt entries m → Climbs m copies
    → IsContent (last_of most_entries (entries_after entries copies))
unfolding entries_made
content-after entries m [] h climbs =
    subst (λ (es : List MemoryEntry). IsContent (last_of most_entries es))
    (sym (append-nil entries)) h.content
content-after entries m (copy ∷ copies) h climbs =
    subst (λ (es : List MemoryEntry). IsContent (last_of most_entries es))
    (append_assoc entries (entry_made entries copy)
    (entries_made (entries ++ entry_made entries copy) copies))
    (content-after (entries ++ entry_made entries copy) copy.moment copies
    (one-entered entries copy (later-holds entries m copy.moment climbs.0 h)) climbs.1)
