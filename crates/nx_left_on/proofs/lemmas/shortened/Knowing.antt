-- Old entries make nothing known.
use Rattle.std.proofs.Common.{◌≡◌, inl, inr, ℕ, ◌+◌, ◌-◌, ◌≤◌, false, not, ◌&&◌, ◌||◌, cond, nat_lt, List, []}
use Rattle.std.proofs.Common.{◌∷◌, ◌++◌, length, drop, refl, sym, ap, ap₂, ◌∙◌, arith, append_assoc}
use Rattle.std.specs.List.{All}
use Rattle.std.proofs.Math.Seq.{drop-append-add}
use Rattle.std.proofs.lemmas.Bool.{and_right, cases_lt, le-ltb}
use Rattle.std.proofs.lemmas.List.{drop-append-le, length-append}
use Rattle.std.proofs.lemmas.List.Elements.{All-drop, All-head, All-nil, All-tail, All-weaker}
use Rattle.std.proofs.lemmas.List.Folds.{list_any-append, list_any_none}
use Rattle.nx_code.specs.Lists.{last_of}
use Rattle.nx_envelope.specs.Identity.{same_identity}
use Rattle.nx_envelope.specs.declared.identity.Identity.{Identity}
use Rattle.nx_memory.specs.Memory.{is_known, is_recent, most_entries, seconds_known}
use Rattle.nx_memory.specs.declared.memories.entry.MemoryEntry.{MemoryEntry}
use Rattle.nx_copies.specs.copies.FoundCopies.{TaggedCopy}
use Rattle.nx_copies.specs.copies.Printing.{entry_made, entry_of, if_printed, is_entered, is_good}
use Rattle.nx_copies.specs.copies.Printing.{is_number_00, is_printed, printed_copies}
use Rattle.nx_left_on.specs.Shortened.{IsOldAt}
use Rattle.nx_left_on.proofs.lemmas.shortened.Starting.{AreBehindOld}

module _ (floor : ℕ) where
  unknown-of : (identity : Identity) (moment : ℕ) (entry : MemoryEntry) → floor ≤ moment
      → IsOldAt floor entry → is_recent identity moment entry ≡ false
  unknown-of identity moment entry late old =
      and_right (same_identity entry.identity identity)
      (nat_lt (moment - entry.moment) seconds_known)
      (le-ltb (moment - entry.moment) seconds_known (omega arith))

  known-behind : (identity : Identity) (moment : ℕ) (all kept : List MemoryEntry) → floor ≤ moment
      → AreBehindOld floor all kept
      → is_known identity moment all ≡ is_known identity moment kept
  known-behind identity moment all kept late h =
      ap (is_known identity moment) h.split
      ∙ list_any-append (is_recent identity moment) h.front kept
      ∙ ap (λ b. b || is_known identity moment kept)
      (list_any_none (is_recent identity moment) h.front
      (All-weaker (IsOldAt floor) (λ entry. is_recent identity moment entry ≡ false)
      (λ entry old. unknown-of identity moment entry late old) h.front h.old))

  -- of the last ones too
  pub last-behind : (front kept : List MemoryEntry) → All (IsOldAt floor) front
      → AreBehindOld floor (last_of most_entries (front ++ kept)) (last_of most_entries kept)
  last-behind front kept old =
      let long = length-append front kept in
      let n = length (front ++ kept) - most_entries in
      elim (cases_lt (length front) n) [
        | inl lt ↦
            let more = length kept - most_entries in
            let at : n ≡ length front + more = omega (arith, long, lt) in
            record {
              front = [];
              split = ap (λ (k : ℕ). drop k (front ++ kept)) at
                  ∙ drop-append-add front kept more;
              old = All-nil (IsOldAt floor);
            }
        | inr within ↦
            let none : length kept - most_entries ≡ 0 = omega (arith, long, within) in
            record {
              front = drop n front;
              split = drop-append-le n front kept within
                  ∙ ap (λ (k : ℕ). drop n front ++ drop k kept) (sym none);
              old = All-drop (IsOldAt floor) n front old;
            }
      ]

  module _ (front : List MemoryEntry) (old : All (IsOldAt floor) front) where
    printed-alike : (entries : List MemoryEntry) (copy : TaggedCopy) → floor ≤ copy.moment
        → is_printed (front ++ entries) copy ≡ is_printed entries copy
    unfolding is_printed
    printed-alike entries copy late =
        ap (λ b. copy.selected && (is_number_00 copy || not b))
        (known-behind copy.identity copy.moment (last_of most_entries (front ++ entries))
        (last_of most_entries entries) late (last-behind front entries old))

    made-alike : (entries : List MemoryEntry) (copy : TaggedCopy) → floor ≤ copy.moment
        → entry_made (front ++ entries) copy ≡ entry_made entries copy
    unfolding entry_made is_entered
    made-alike entries copy late =
        ap (λ b. cond (b && is_good copy && not (is_number_00 copy)) (entry_of copy ∷ []) [])
        (printed-alike entries copy late)

    pub same-printed : (entries : List MemoryEntry) (copies : List TaggedCopy)
        → All (λ copy. floor ≤ copy.moment) copies
        → printed_copies (front ++ entries) copies ≡ printed_copies entries copies
    unfolding printed_copies if_printed
    same-printed entries [] late = refl
    same-printed entries (copy ∷ copies) late =
        let here = All-head (λ (copy : TaggedCopy). floor ≤ copy.moment) copy copies late in
        let made = entry_made entries copy in
        let next : (front ++ entries) ++ entry_made (front ++ entries) copy
        ≡ front ++ (entries ++ made) =
        ap (λ m. (front ++ entries) ++ m) (made-alike entries copy here)
        ∙ append_assoc front entries made in
        ap₂ (λ b es. cond b (copy ∷ []) [] ++ printed_copies es copies)
        (printed-alike entries copy here) next
        ∙ ap (λ those. cond (is_printed entries copy) (copy ∷ []) [] ++ those)
        (same-printed (entries ++ made) copies
        (All-tail (λ (copy : TaggedCopy). floor ≤ copy.moment) copy copies late))
