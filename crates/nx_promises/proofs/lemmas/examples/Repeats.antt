-- The example of repeats meets the premises of the law of printing once.
use Rattle.std.proofs.Common.{◌≡◌, suc, ◌+◌, ◌≤◌, Bool, true, false, cond, List, [], ◌∷◌, ◌++◌}
use Rattle.std.proofs.Common.{length, refl, ap, ◌∙◌, arith, IsTrue, lit≤}
use Rattle.std.proofs.lemmas.List.{length-append}
use Rattle.std.proofs.lemmas.List.Elements.{All-nil, All-cons, All-contains}
use Rattle.nx_memory.specs.declared.memories.entry.MemoryEntry.{MemoryEntry}
use Rattle.nx_station.specs.reception.PathExample.{ea01}
use Rattle.nx_promises.specs.examples.Repeats.{first_copy, repeated_copy, example_copies}
use Rattle.nx_copies.specs.laws.LawTerms.{AreRepeats}
use Rattle.nx_copies.specs.copies.Printing.{copies_of, is_good, is_entered, entry_of, entry_made}
use Rattle.nx_copies.specs.copies.Printing.{entries_made, entries_after}
use Rattle.nx_copies.specs.copies.FoundCopies.{TaggedCopy}
use Rattle.nx_copies.proofs.lemmas.once.Repeats.{none_live}

-- each copy makes one entry at most
pub made_few : (entries : List MemoryEntry) (copies : List TaggedCopy)
    → length (entries_made entries copies) ≤ length copies
unfolding entries_made entry_made
made_few entries [] = omega arith
made_few entries (c ∷ copies) =
    elim (is_entered entries c) as (λ (b : Bool). length
    (cond b (entry_of c ∷ []) []
    ++ entries_made (entries ++ cond b (entry_of c ∷ []) []) copies) ≤ suc (length copies)) [
      | true ↦ omega (arith, made_few (entries ++ entry_of c ∷ []) copies)
      | false ↦ omega (arith, made_few (entries ++ []) copies)
    ]

pub example : AreRepeats [] ea01 example_copies first_copy (repeated_copy ∷ [])
unfolding copies_of
example = record {
  heard = refl;
  numbered = lit≤ tt;
  unknown = none_live ea01 example_copies;
  good = All-cons (λ (c : TaggedCopy). IsTrue (is_good c)) first_copy (repeated_copy ∷ []) refl
      (All-cons (λ (c : TaggedCopy). IsTrue (is_good c)) repeated_copy [] refl
      (All-nil (λ (c : TaggedCopy). IsTrue (is_good c))));
  selected = All-cons (λ (c : TaggedCopy). IsTrue c.selected) first_copy (repeated_copy ∷ []) refl
      (All-cons (λ (c : TaggedCopy). IsTrue c.selected) repeated_copy [] refl
      (All-nil (λ (c : TaggedCopy). IsTrue c.selected)));
  close = λ one other h k.
      let P : TaggedCopy → Type 0 = λ c. (1735692000 ≤ c.moment) × (c.moment ≤ 1735706400) in
      let all = All-cons P first_copy (repeated_copy ∷ []) (lit≤ tt, lit≤ tt)
      (All-cons P repeated_copy [] (lit≤ tt, lit≤ tt) (All-nil P)) in
      let a = All-contains P (first_copy ∷ repeated_copy ∷ []) one all h in
      let b = All-contains P (first_copy ∷ repeated_copy ∷ []) other all k in
      omega (arith, a.0, a.1, b.0, b.1);
  few = λ before between after first later e none named h.
      let long : 4 ≡ length before + suc (length between + suc (length after)) =
      ap length e ∙ length-append before (first ∷ (between ++ later ∷ after))
      ∙ ap (λ n. length before + suc n) (length-append between (later ∷ after)) in
      omega (arith, made_few (entries_after [] (before ++ first ∷ [])) between);
}
