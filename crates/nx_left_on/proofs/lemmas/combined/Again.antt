-- A message whose entry is live isn't printed again, by whatever is taken together.
use Rattle.std.proofs.Common.{◌≡◌, inl, inr, ℕ, ◌+◌, ◌<◌, ◌≤◌, ◌==◌, ◌&&◌, ◌||◌, Bool, true, false, not, cond}
use Rattle.std.proofs.Common.{List, [], ◌∷◌, ◌++◌, length, refl, sym, ap, ap₂, ◌∙◌, subst, arith}
use Rattle.std.proofs.Common.{append_assoc, length-append}
use Rattle.std.specs.Prelude.{filter, is_some, map}
use Rattle.std.specs.List.{AllByRecursion}
use Rattle.std.proofs.lemmas.Bool.{and_parts, cases_lt, ne_eqb, true≢false}
use Rattle.nx_envelope.specs.Identity.{same_identity}
use Rattle.nx_envelope.specs.declared.identity.Identity.{Identity}
use Rattle.nx_envelope.proofs.lemmas.headers.Identities.{same_itself}
use Rattle.nx_log.specs.Logged.{is_memorable, memory_entries}
use Rattle.nx_memory.specs.Memory.{most_entries, seconds_known}
use Rattle.nx_memory.specs.declared.memories.entry.MemoryEntry.{MemoryEntry}
use Rattle.nx_memory.proofs.lemmas.Known.{known_from_live}
use Rattle.nx_copies.specs.Events.{Start}
use Rattle.nx_copies.specs.copies.FoundCopies.{TaggedCopy}
use Rattle.nx_copies.specs.copies.Printing.{copies_of, entry_of, is_good, is_number_00, is_printed}
use Rattle.nx_copies.specs.copies.Printing.{is_remembered}
use Rattle.nx_combine.specs.CombinedPrinting.{entry_made_combined}
use Rattle.nx_combine.specs.CombinedPrinting.{if_printed_combined, is_better_than_before}
use Rattle.nx_combine.specs.CombinedPrinting.{is_entered_combined, is_printed_combined, printed_combined}
use Rattle.nx_combine.specs.CopyPositions.{HeardCopy}
use Rattle.nx_combine.specs.Families.{CombinedCopy}
use Rattle.nx_combine.specs.private.Families.{combined_copies, combined_copy}
use Rattle.nx_combine.specs.Judging.{Judged, all_copies, all_printed, judged_after}
use Rattle.nx_combine.specs.Laws.{is_named}
use Rattle.nx_combine.proofs.lemmas.Judged.{made_unprinted}
use Rattle.nx_combine.proofs.lemmas.Once.{in_order}
use Rattle.nx_promises.specs.laws.Together.{none_judged}
use Rattle.nx_left_on.specs.Together.{IsOver}
use Rattle.nx_left_on.proofs.lemmas.combined.Named.{AreNamed, family-numbered, named-more, not-better}
use Rattle.nx_copies.proofs.lemmas.once.Repeats.{none_first}

pub over-more : (entry : MemoryEntry) (more behind : ℕ) (copy : TaggedCopy) → more ≤ behind
    → IsOver entry more copy → IsOver entry behind copy
over-more entry more behind copy le (inl old) = inl old
over-more entry more behind copy le (inr many) = inr (omega (arith, le, many))

module _ (identity : Identity) (entry : MemoryEntry) (numbered : 0 < identity.number)
    (named : entry.identity ≡ identity) where
  -- else the identity is remembered
  known : (front behind : List MemoryEntry) (copy : TaggedCopy) → copy.identity ≡ identity
      → copy.moment < entry.moment + seconds_known → length behind < most_entries
      → is_remembered (front ++ entry ∷ behind) copy ≡ true
  known front behind copy is near few =
      known_from_live copy.identity copy.moment (front ++ entry ∷ behind) (record {
        before = front;
        entry = entry;
        after = behind;
        made = refl;
        same = named ∙ sym is;
        recent = near;
        few_after = few;
      })

  -- where none of it was printed, it isn't then
  unprinted : (so_far : Judged) (heard : HeardCopy) (front behind : List MemoryEntry)
      → so_far.entries ≡ front ++ entry ∷ behind → AreNamed so_far
      → AllByRecursion (λ other. is_named identity other ≡ false) so_far.printed
      → (combined_copy so_far.families heard).copy.identity ≡ identity
      → (combined_copy so_far.families heard).copy.moment < entry.moment + seconds_known
      → length behind < most_entries
      → is_printed_combined so_far.entries so_far.printed (combined_copy so_far.families heard)
      ≡ false
  unfolding is_printed_combined is_printed
  unprinted so_far heard front behind whole are none is near few =
      let one = combined_copy so_far.families heard in
      let live : is_remembered so_far.entries one.copy ≡ true =
      ap (λ es. is_remembered es one.copy) whole ∙ known front behind one.copy is near few in
      let named_so : is_named identity one ≡ true =
      ap (λ (i : Identity). same_identity i identity) is ∙ same_itself identity in
      let worse = not-better so_far heard identity are none named_so in
      let number : is_number_00 one.copy ≡ false =
      ap (λ (i : Identity). i.number == 0) is ∙ not-zero identity.number numbered in
      ap₂ (λ a b. (one.copy.selected && (a || not b))
      || (b && is_better_than_before so_far.printed one)) number live
      ∙ ap (λ c. (one.copy.selected && false) || c) worse
      ∙ none-of one.copy.selected
    where
      not-zero : (n : ℕ) → 0 < n → (n == 0) ≡ false
      not-zero n some = ne_eqb n 0 (λ e. omega (arith, some, e))

      none-of : (b : Bool) → ((b && false) || false) ≡ false
      none-of true = refl
      none-of false = refl

  -- ---- what is entered is kept of it

  few-made : (so_far : Judged) (heard : HeardCopy) (later : List TaggedCopy)
      → length (entry_made_combined so_far.entries so_far.printed
      (combined_copy so_far.families heard)) + length (memory_entries later)
      ≤ length (memory_entries ((combined_copy so_far.families heard).copy ∷ later))
  unfolding entry_made_combined is_entered_combined memory_entries is_memorable
  few-made so_far heard later =
      let one = combined_copy so_far.families heard in
      let printed = is_printed_combined so_far.entries so_far.printed one in
      let rest = map entry_of (filter is_memorable later) in
      elim (printed && is_good one.copy && is_some one.family) as (λ (b : Bool).
      (printed && is_good one.copy && is_some one.family) ≡ b
      → length (cond b (entry_of one.copy ∷ []) []) + length rest
      ≤ length (map entry_of (cond (is_good one.copy && not (is_number_00 one.copy))
      (one.copy ∷ filter is_memorable later) (filter is_memorable later)))) [
        | true ↦ λ is.
            let outer = and_parts (printed && is_good one.copy) (is_some one.family) is in
            let good = (and_parts printed (is_good one.copy) outer.0).1 in
            let kept : (is_good one.copy && not (is_number_00 one.copy)) ≡ true =
            ap₂ (λ a b. a && not b) good (family-numbered so_far.families heard outer.1) in
            subst (λ (c : Bool). 1 + length rest ≤ length (map entry_of (cond c
            (one.copy ∷ filter is_memorable later) (filter is_memorable later)))) (sym kept)
            (omega arith)
        | false ↦ λ is.
            elim (is_good one.copy && not (is_number_00 one.copy)) as (λ (c : Bool).
            0 + length rest ≤ length (map entry_of (cond c
            (one.copy ∷ filter is_memorable later) (filter is_memorable later)))) [
              | true ↦ omega arith
              | false ↦ omega arith
            ]
      ] refl

  -- ---- the first copy of the identity that is printed

  -- one more copy, which is printed or not
  module _ (so_far : Judged) (heard : HeardCopy) (front behind : List MemoryEntry)
      (whole : so_far.entries ≡ front ++ entry ∷ behind) (are : AreNamed so_far)
      (none : AllByRecursion (λ other. is_named identity other ≡ false) so_far.printed) where
    abbrev one : CombinedCopy
    one = combined_copy so_far.families heard

    abbrev made : List MemoryEntry
    made = entry_made_combined so_far.entries so_far.printed one

    entries-next : (judged_after so_far heard).entries ≡ front ++ entry ∷ (behind ++ made)
    entries-next =
        ap (λ es. es ++ made) whole ∙ append_assoc front (entry ∷ behind) made

    -- it is the first of the identity
    first-over : is_printed_combined so_far.entries so_far.printed one ≡ true
        → one.copy.identity ≡ identity → IsOver entry (length behind) one.copy
    first-over printed is = elim (cases_lt one.copy.moment (entry.moment + seconds_known)) [
      | inl near ↦ elim (cases_lt (length behind) most_entries) [
        | inl few ↦
            absurd (true≢false
            (sym printed ∙ unprinted so_far heard front behind whole are none is near few))
        | inr many ↦ inr many
      ]
      | inr old ↦ inl old
    ]

    none-if : (b : Bool) → is_printed_combined so_far.entries so_far.printed one ≡ b
        → (b ≡ true → is_named identity one ≡ false)
        → AllByRecursion (λ other. is_named identity other ≡ false)
        (judged_after so_far heard).printed
    unfolding if_printed_combined
    none-if b printed other =
        subst (λ (c : Bool). AllByRecursion (λ other. is_named identity other ≡ false)
        (cond c (one ∷ []) [] ++ so_far.printed)) (sym printed) (of b other)
      where
        of : (b : Bool) → (b ≡ true → is_named identity one ≡ false)
            → AllByRecursion (λ other. is_named identity other ≡ false)
            (cond b (one ∷ []) [] ++ so_far.printed)
        of true other = (other refl, none)
        of false other = none

  copies-if : (so_far : Judged) (heard : HeardCopy) (copies : List HeardCopy) (b : Bool)
      → is_printed_combined so_far.entries so_far.printed (combined_copy so_far.families heard) ≡ b
      → all_copies (all_printed so_far (heard ∷ copies))
      ≡ cond b ((combined_copy so_far.families heard).copy ∷ []) []
      ++ all_copies (all_printed (judged_after so_far heard) copies)
  unfolding if_printed_combined
  copies-if so_far heard copies b is =
      let one = combined_copy so_far.families heard in
      let rest = all_printed (judged_after so_far heard) copies in
      ap (λ (c : Bool). all_copies (cond c (one ∷ []) [] ++ rest)) is ∙ of one rest b
    where
      of : (it : CombinedCopy) (rest : List CombinedCopy) (b : Bool)
          → all_copies (cond b (it ∷ []) [] ++ rest)
          ≡ cond b (it.copy ∷ []) [] ++ all_copies rest
      of it rest true = refl
      of it rest false = refl

  -- what holds of the first copy of the identity that is printed of copies behind this
  abbrev Over : Judged → List HeardCopy → Type 0
  Over so_far copies =
      (front behind : List MemoryEntry) → so_far.entries ≡ front ++ entry ∷ behind
      → AreNamed so_far
      → AllByRecursion (λ other. is_named identity other ≡ false) so_far.printed
      → (earlier later : List TaggedCopy) (copy : TaggedCopy)
      → all_copies (all_printed so_far copies) ≡ earlier ++ copy ∷ later
      → copy.identity ≡ identity → copies_of identity earlier ≡ []
      → IsOver entry (length behind + length (memory_entries earlier)) copy

  -- the next copy is printed
  over-printed : (so_far : Judged) (heard : HeardCopy) (copies : List HeardCopy)
      → is_printed_combined so_far.entries so_far.printed (combined_copy so_far.families heard)
      ≡ true
      → Over (judged_after so_far heard) copies → (front behind : List MemoryEntry)
      → so_far.entries ≡ front ++ entry ∷ behind → AreNamed so_far
      → AllByRecursion (λ other. is_named identity other ≡ false) so_far.printed
      → (earlier later : List TaggedCopy) (copy : TaggedCopy)
      → (combined_copy so_far.families heard).copy
      ∷ all_copies (all_printed (judged_after so_far heard) copies) ≡ earlier ++ copy ∷ later
      → copy.identity ≡ identity → copies_of identity earlier ≡ []
      → IsOver entry (length behind + length (memory_entries earlier)) copy
  over-printed so_far heard copies printed rest front behind whole are none [] later copy e is
      first =
      let head : (combined_copy so_far.families heard).copy ≡ copy = cc in
      let over = first-over so_far heard front behind whole are none printed
      (ap (λ (c : TaggedCopy). c.identity) head ∙ is) in
      over-more entry (length behind) (length behind + length (memory_entries [])) copy
      (omega arith)
      (subst (IsOver entry (length behind)) head over)
  over-printed so_far heard copies printed rest front behind whole are none (x ∷ earlier) later copy
      e is first =
      let one = combined_copy so_far.families heard in
      let made = entry_made_combined so_far.entries so_far.printed one in
      let head : one.copy ≡ x = cc in
      let tail : all_copies (all_printed (judged_after so_far heard) copies)
      ≡ earlier ++ copy ∷ later = cc in
      let parts = none_first identity x earlier first in
      let other : is_named identity one ≡ false =
      ap (λ (c : TaggedCopy). same_identity c.identity identity) head ∙ parts.0 in
      let over = rest front (behind ++ made) (entries-next so_far heard front behind whole are none)
      (named-more so_far heard are)
      (none-if so_far heard front behind whole are none true printed (λ same. other))
      earlier later copy tail is parts.1 in
      let kept = few-made so_far heard earlier in
      let same : length (memory_entries (one.copy ∷ earlier))
      ≡ length (memory_entries (x ∷ earlier)) =
      ap (λ c. length (memory_entries (c ∷ earlier))) head in
      over-more entry (length (behind ++ made) + length (memory_entries earlier))
      (length behind + length (memory_entries (x ∷ earlier))) copy
      (omega (arith, kept, same, length-append behind made)) over

  -- or it isn't
  over-unprinted : (so_far : Judged) (heard : HeardCopy) (copies : List HeardCopy)
      → is_printed_combined so_far.entries so_far.printed (combined_copy so_far.families heard)
      ≡ false
      → Over (judged_after so_far heard) copies → (front behind : List MemoryEntry)
      → so_far.entries ≡ front ++ entry ∷ behind → AreNamed so_far
      → AllByRecursion (λ other. is_named identity other ≡ false) so_far.printed
      → (earlier later : List TaggedCopy) (copy : TaggedCopy)
      → all_copies (all_printed (judged_after so_far heard) copies) ≡ earlier ++ copy ∷ later
      → copy.identity ≡ identity → copies_of identity earlier ≡ []
      → IsOver entry (length behind + length (memory_entries earlier)) copy
  over-unprinted so_far heard copies unprinted rest front behind whole are none earlier later copy e
      is first =
      let one = combined_copy so_far.families heard in
      let made = entry_made_combined so_far.entries so_far.printed one in
      let nothing : length made ≡ 0 =
      ap (λ es. length es) (made_unprinted so_far.entries so_far.printed one unprinted) in
      let over = rest front (behind ++ made) (entries-next so_far heard front behind whole are none)
      (named-more so_far heard are)
      (none-if so_far heard front behind whole are none false unprinted
      (λ same. absurd (true≢false (sym same))))
      earlier later copy e is first in
      over-more entry (length (behind ++ made) + length (memory_entries earlier))
      (length behind + length (memory_entries earlier)) copy
      (omega (arith, nothing, length-append behind made)) over

  over-next : (so_far : Judged) (heard : HeardCopy) (copies : List HeardCopy) (b : Bool)
      → is_printed_combined so_far.entries so_far.printed (combined_copy so_far.families heard) ≡ b
      → Over (judged_after so_far heard) copies → Over so_far (heard ∷ copies)
  over-next so_far heard copies true printed rest front behind whole are none earlier later copy e =
      over-printed so_far heard copies printed rest front behind whole are none earlier later copy
      (sym (copies-if so_far heard copies true printed) ∙ e)
  over-next so_far heard copies false unprinted rest front behind whole are none earlier later copy
      e =
      over-unprinted so_far heard copies unprinted rest front behind whole are none earlier later
      copy (sym (copies-if so_far heard copies false unprinted) ∙ e)

  pub again : (so_far : Judged) (copies : List HeardCopy) → Over so_far copies
  again so_far [] front behind whole are none [] later copy e is first = cc
  again so_far [] front behind whole are none (x ∷ earlier) later copy e is first = cc
  again so_far (heard ∷ copies) front behind whole are none earlier later copy e is first =
      over-next so_far heard copies
      (is_printed_combined so_far.entries so_far.printed (combined_copy so_far.families heard)) refl
      (again (judged_after so_far heard) copies) front behind whole are none earlier later copy e is
      first

-- ---- of what a watch prints

pub printed-over : (start : Start) (heard : List HeardCopy) (log earlier later : List TaggedCopy)
    (copy : TaggedCopy) (identity : Identity) (front behind : List MemoryEntry)
    (entry : MemoryEntry)
    → log ≡ map (λ (one : CombinedCopy). one.copy)
    (printed_combined start.entries [] (combined_copies [] heard))
    → start.entries ≡ front ++ entry ∷ behind → entry.identity ≡ identity → 0 < identity.number
    → log ≡ earlier ++ copy ∷ later → copy.identity ≡ identity → copies_of identity earlier ≡ []
    → IsOver entry (length behind + length (memory_entries earlier)) copy
printed-over start heard log earlier later copy identity front behind entry prints whole named
    numbered split is first =
    again identity entry numbered named (none_judged start) heard front behind whole tt tt earlier
    later copy
    (ap all_copies (in_order (none_judged start) heard) ∙ sym prints ∙ split) is first
