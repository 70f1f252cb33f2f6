-- From how many sendings the entry is put together that was printed last.
use Rattle.std.proofs.Common.{◌≡◌, ℕ, Bool, true, false, List, [], ◌∷◌, ◌++◌, Option, None, Some}
use Rattle.std.proofs.Common.{if◌then◌else◌, refl, sym, ap, ◌∙◌, subst}
use Rattle.std.specs.Prelude.{IfSome}
use Rattle.nx_memory.specs.declared.memories.entry.MemoryEntry.{MemoryEntry}
use Rattle.nx_copies.specs.Events.{Event, Start, elements_among, first_setting, settings}
use Rattle.nx_copies.specs.copies.FoundCopies.{TaggedCopy, headed_copy}
use Rattle.nx_copies.specs.declared.entry.EntryHead.{EntryHead}
use Rattle.nx_receiver.specs.Receiver.{headed_list}
use Rattle.nx_combine.specs.CombinedHearing.{HaveAllBeenHeard, heard_by}
use Rattle.nx_combine.specs.CombinedPrinting.{HasPrintedLastHolding, PrintsLastHoldingToEnd}
use Rattle.nx_combine.specs.CombinedPrinting.{if_printed_combined, is_printed_combined}
use Rattle.nx_combine.specs.CombinedPrinting.{printed_combined}
use Rattle.nx_combine.specs.CombinedReceiver.{CombiningReceiver, HasJudged}
use Rattle.nx_combine.specs.CombinedReceiver.{StandsAfterAllHolding, judged_none}
use Rattle.nx_combine.specs.CopyPositions.{HeardCopy, heard_copies}
use Rattle.nx_combine.specs.Families.{CombinedCopy, combined_copies_holding}
use Rattle.nx_combine.specs.Families.{combined_copy_holding}
use Rattle.nx_combine.specs.Judging.{Judged, all_copies, all_printed_holding}
use Rattle.nx_combine.specs.Judging.{judged_after_holding, judged_behind_holding}
use Rattle.nx_combine.specs.Judging.{printed_by_holding, sendings_of_last}
use Rattle.nx_combine.proofs.lemmas.Once.{in_order_holding}

-- One more copy is judged.

-- where none is printed, the last one is as it was
pub none_counted : (shown before : List CombinedCopy) → all_copies shown ≡ []
    → sendings_of_last before ≡ sendings_of_last (shown ++ before)
none_counted [] before none = refl
none_counted (one ∷ shown) before none =
    absurd (let contra : one.copy ∷ all_copies shown ≡ [] = none in cc)

-- where one is printed, it is the last one
pub one_counted : (entries : List MemoryEntry) (before : List CombinedCopy) (one : CombinedCopy)
    (copy : TaggedCopy) → all_copies (if_printed_combined entries before one) ≡ copy ∷ []
    → one.sendings ≡ sendings_of_last (if_printed_combined entries before one ++ before)
unfolding if_printed_combined
one_counted entries before one copy is =
    elim (is_printed_combined entries before one) as (λ b.
    all_copies (if b then one ∷ [] else []) ≡ copy ∷ []
    → one.sendings ≡ sendings_of_last ((if b then one ∷ [] else []) ++ before)) [
      | true ↦ λ _. refl
      | false ↦ λ none. absurd (let contra : [] ≡ copy ∷ [] = none in cc)
    ] is

-- Of all that were printed, newest first, the last one stands first.

-- the first ones, turned, before others
abbrev onto : {X : Type 0} → List X → List X → List X
onto [] ys = ys
onto (x ∷ xs) ys = onto xs (x ∷ ys)

onto-append : {X : Type 0} (xs more ys : List X) → onto (xs ++ more) ys ≡ onto more (onto xs ys)
onto-append [] more ys = refl
onto-append (x ∷ xs) more ys = onto-append xs more (x ∷ ys)

onto-shown : (shown : Bool) (one : CombinedCopy) (ys : List CombinedCopy)
    → (if shown then one ∷ [] else []) ++ ys ≡ onto (if shown then one ∷ [] else []) ys
onto-shown true one ys = refl
onto-shown false one ys = refl

onto-printed : (held : ℕ) (so_far : Judged) (heard : HeardCopy)
    → printed_by_holding held so_far heard ++ so_far.printed
    ≡ onto (printed_by_holding held so_far heard) so_far.printed
unfolding if_printed_combined
onto-printed held so_far heard =
    let one = combined_copy_holding held so_far.families heard in
    onto-shown (is_printed_combined so_far.entries so_far.printed one) one so_far.printed

behind_printed : (held : ℕ) (so_far : Judged) (copies : List HeardCopy)
    → (judged_behind_holding held so_far copies).printed
    ≡ onto (all_printed_holding held so_far copies) so_far.printed
behind_printed held so_far [] = refl
behind_printed held so_far (heard ∷ later) =
    let next = judged_after_holding held so_far heard in
    behind_printed held next later
    ∙ ap (onto (all_printed_holding held next later)) (onto-printed held so_far heard)
    ∙ sym (onto-append (printed_by_holding held so_far heard) (all_printed_holding held next later)
    so_far.printed)

-- these copies end in one that comes to this
record EndsIn (combined : List CombinedCopy) (copy : TaggedCopy) : Type 0 where
  earlier : List CombinedCopy
  last : CombinedCopy
  whole : combined ≡ earlier ++ last ∷ []
  comes_to : last.copy ≡ copy

ends_in : (combined : List CombinedCopy) (log : List TaggedCopy) (copy : TaggedCopy)
    → log ++ copy ∷ [] ≡ all_copies combined → EndsIn combined copy
ends_in [] [] copy is = absurd (let contra : copy ∷ [] ≡ [] = is in cc)
ends_in [] (first ∷ log) copy is =
    absurd (let contra : first ∷ (log ++ copy ∷ []) ≡ [] = is in cc)
ends_in (one ∷ []) [] copy is =
    let same : copy ∷ [] ≡ one.copy ∷ [] = is in
    record { earlier = []; last = one; whole = refl; comes_to = let s : one.copy ≡ copy = cc in s }
ends_in (one ∷ other ∷ more) [] copy is =
    absurd (let contra : copy ∷ [] ≡ one.copy ∷ other.copy ∷ all_copies more = is in cc)
ends_in (one ∷ more) (first ∷ log) copy is =
    let all : first ∷ (log ++ copy ∷ []) ≡ one.copy ∷ all_copies more = is in
    let rest : log ++ copy ∷ [] ≡ all_copies more = cc in
    let there = ends_in more log copy rest in
    record {
      earlier = one ∷ there.earlier;
      last = there.last;
      whole = ap (λ l. one ∷ l) there.whole;
      comes_to = there.comes_to;
    }

-- the last of the combined copies that are printed of these comes to this, and is of so many
-- sendings
record LastOf (held : ℕ) (start : Start) (copies : List HeardCopy) (copy : TaggedCopy)
    (sendings : ℕ) : Type 0 where
  earlier : List CombinedCopy
  last : CombinedCopy
  printed : printed_combined start.entries [] (combined_copies_holding held [] copies)
      ≡ earlier ++ last ∷ []
  comes_to : last.copy ≡ copy
  counted : last.sendings ≡ sendings

last_of_judged : (held : ℕ) {M : Type 0} (content : M → List MemoryEntry) (start : Start)
    (receiver : CombiningReceiver M) (copies : List HeardCopy) (log : List TaggedCopy)
    (copy : TaggedCopy)
    → HasJudged held content start receiver copies (log ++ copy ∷ [])
    → LastOf held start copies copy receiver.sendings
last_of_judged held content start receiver copies log copy judged =
    let none = judged_none start.entries in
    let shown = printed_combined start.entries [] (combined_copies_holding held [] copies) in
    let ends = ends_in shown log copy judged.printed in
    record {
      earlier = ends.earlier;
      last = ends.last;
      printed = ends.whole;
      comes_to = ends.comes_to;
      counted = sym (judged.sendings
          ∙ ap sendings_of_last (behind_printed held none copies
          ∙ ap (λ l. onto l []) (in_order_holding held none copies ∙ ends.whole)
          ∙ onto-append ends.earlier (ends.last ∷ []) []));
    }

-- the receiver holds the number of the entry that it printed last
pub counted_last : (held : ℕ) {M : Type 0} (content : M → List MemoryEntry) (start : Start)
    (receiver : CombiningReceiver M) (events : List Event) (log : List TaggedCopy)
    (copy : TaggedCopy)
    → StandsAfterAllHolding held content start receiver events (log ++ copy ∷ [])
    → HasPrintedLastHolding held start events copy receiver.sendings
unfolding heard_copies heard_by
counted_last held content start receiver events log copy s =
    let heard = s.stands.heard in
    let last = last_of_judged held content start receiver s.copies log copy s.judged in
    record {
      locks = heard.locks;
      now = heard.now;
      stands = heard.stands;
      earlier = last.earlier;
      last = last.last;
      printed = ap (λ all. printed_combined start.entries [] (combined_copies_holding held [] all))
          (sym heard.heard)
          ∙ last.printed;
      comes_to = last.comes_to;
      counted = last.counted;
    }

-- and so where a call answered its head
pub counted_head : (held : ℕ) {M : Type 0} (content : M → List MemoryEntry) (start : Start)
    (receiver : CombiningReceiver M) (events : List Event) (log : List TaggedCopy)
    (answer : Option EntryHead) (head : EntryHead) (text : List ℕ) → answer ≡ Some head
    → StandsAfterAllHolding held content start receiver events (log ++ headed_list answer text)
    → HasPrintedLastHolding held start events (headed_copy head text true) receiver.sendings
counted_head held content start receiver events log answer head text is s =
    counted_last held content start receiver events log (headed_copy head text true)
    (subst (λ o. StandsAfterAllHolding held content start receiver events
    (log ++ headed_list o text)) is s)

-- and where all elements ended
pub counted_to_end : (held : ℕ) {M : Type 0} (content : M → List MemoryEntry) (start : Start)
    (receiver : CombiningReceiver M) (events : List Event) (copies : List HeardCopy)
    (log : List TaggedCopy) (copy : TaggedCopy)
    → HaveAllBeenHeard (first_setting start) (elements_among events)
    (settings (first_setting start) events) copies
    → HasJudged held content start receiver copies (log ++ copy ∷ [])
    → PrintsLastHoldingToEnd held start events copy receiver.sendings
unfolding heard_copies heard_by
counted_to_end held content start receiver events copies log copy heard judged =
    let last = last_of_judged held content start receiver copies log copy judged in
    record {
      locks = heard.locks;
      now = heard.now;
      stands = heard.stands;
      earlier = last.earlier;
      last = last.last;
      printed = ap (λ all. printed_combined start.entries [] (combined_copies_holding held [] all))
          (sym heard.heard)
          ∙ last.printed;
      comes_to = last.comes_to;
      counted = last.counted;
    }

-- what holds of each value that there may be
pub each_some : {X : Type 0} {P : X → Type 0} (o : Option X) → ((x : X) → o ≡ Some x → P x)
    → IfSome o P
each_some None holds = tt
each_some (Some x) holds = holds x refl
