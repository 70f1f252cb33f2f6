-- What is printed of copies, and what they leave, where one more comes behind them.
use Rattle.std.proofs.Common.{◌≡◌, ℕ, Bool, true, false, List, [], ◌∷◌, ◌++◌, Option, None, Some}
use Rattle.std.proofs.Common.{refl}
use Rattle.std.proofs.Common.{sym, ap, ◌∙◌, subst, append-nil, arith, drop, length, ◌-◌, ◌≤◌}
use Rattle.std.proofs.lemmas.List.{map-append}
use Rattle.nx_code.specs.Lists.{last_of}
use Rattle.nx_memory.specs.Memory.{most_entries}
use Rattle.nx_memory.specs.declared.memories.entry.MemoryEntry.{MemoryEntry}
use Rattle.nx_copies.specs.Events.{Start, elements_among, first_setting, setting_after_all}
use Rattle.nx_copies.specs.Events.{settings}
use Rattle.nx_copies.specs.hearing.CopyHearing.{in_force}
use Rattle.nx_combine.specs.CombinedHearing.{CombinedStands}
use Rattle.nx_combine.specs.CombinedPrinting.{printed_combined}
use Rattle.nx_copies.specs.copies.FoundCopies.{TaggedCopy, headed_copy}
use Rattle.nx_copies.specs.declared.entry.EntryHead.{EntryHead}
use Rattle.nx_receiver.specs.Receiver.{headed_list}
use Rattle.nx_combine.specs.CombinedReceiver.{CombiningReceiver, HasJudged}
use Rattle.nx_combine.specs.private.CombinedReceiver.{JudgesNext}
use Rattle.nx_combine.specs.CombinedReceiver.{StandsAfterAllHolding}
use Rattle.nx_combine.specs.CombinedReceiver.{hearer_in, judged_none}
use Rattle.nx_combine.specs.CopyPositions.{HeardCopy}
use Rattle.nx_combine.specs.Families.{CombinedCopy, combined_copies_holding, combined_copy_holding}
use Rattle.nx_combine.specs.Judging.{Judged, StandsHolding, all_copies, all_printed_holding}
use Rattle.nx_combine.specs.Judging.{copies_printed}
use Rattle.nx_combine.specs.Judging.{judged_after_holding, judged_behind_holding}
use Rattle.nx_combine.specs.Judging.{printed_by_holding, sendings_of_last, text_printed}
use Rattle.nx_combine.specs.declared.combiner.PrintedCopy.{PrintedCopy}
use Rattle.nx_combine.proofs.lemmas.Once.{all_printed-append, in_order_holding, unselected}
use Rattle.nx_combine.proofs.lemmas.Judged.{unprinted}

judged_behind-push : (limit : ℕ) (so_far : Judged) (xs : List HeardCopy) (h : HeardCopy)
    → judged_behind_holding limit so_far (xs ++ h ∷ [])
    ≡ judged_after_holding limit (judged_behind_holding limit so_far xs) h
judged_behind-push limit so_far [] h = refl
judged_behind-push limit so_far (x ∷ xs) h = judged_behind-push limit
    (judged_after_holding limit so_far x) xs h

-- so a receiver that judged one more
pub has_judged_next : (limit : ℕ) {M : Type 0} (content : M → List MemoryEntry) (start : Start)
    (old new : CombiningReceiver M) (copies : List HeardCopy) (log printed : List TaggedCopy)
    (heard : HeardCopy) → HasJudged limit content start old copies log
    → JudgesNext limit content new.memory new.combiner new.sendings
    (judged_behind_holding limit (judged_none start.entries) copies)
    heard printed
    → HasJudged limit content start new (copies ++ heard ∷ []) (log ++ printed)
has_judged_next limit content start old new copies log printed heard was is =
    let first = judged_none start.entries in
    let so_far = judged_behind_holding limit first copies in
    let after = judged_behind-push limit first copies heard in
    record {
      printed = ap (λ l. l ++ printed) (was.printed
          ∙ ap all_copies (sym (in_order_holding limit first copies)))
          ∙ ap (λ l. all_copies (all_printed_holding limit first copies) ++ l)
          (sym is.printed_is ∙ ap all_copies (sym
          (append-nil (printed_by_holding limit so_far heard))))
          ∙ sym (map-append (λ (one : CombinedCopy). one.copy)
          (all_printed_holding limit first copies)
          (all_printed_holding limit so_far (heard ∷ [])))
          ∙ ap all_copies (sym (all_printed-append limit first copies (heard ∷ []))
          ∙ in_order_holding limit first (copies ++ heard ∷ []));
      memory = is.entered ∙ ap (λ (j : Judged). last_of most_entries j.entries) (sym after);
      combiner = subst (λ (j : Judged). StandsHolding limit new.combiner j.families j.printed) (sym
          after)
          is.stands;
      sendings = is.counted ∙ ap (λ (j : Judged). sendings_of_last j.printed) (sym after);
    }

-- what is printed of a copy was selected
pub printed_was_selected : (limit : ℕ) (so_far : Judged) (heard : HeardCopy) (printed : PrintedCopy)
    (read own : List ℕ) (selected : Bool) → heard.copy.selected ≡ selected
    → all_copies (printed_by_holding limit so_far heard)
    ≡ copies_printed (Some printed) read own selected
    → all_copies (printed_by_holding limit so_far heard)
    ≡ headed_copy printed.head (text_printed printed read own) true ∷ []
printed_was_selected limit so_far heard printed read own true sel is = is
printed_was_selected limit so_far heard printed read own false sel is =
    let none : all_copies (printed_by_holding limit so_far heard) ≡ [] =
    ap all_copies (unprinted so_far.entries so_far.printed
    (combined_copy_holding limit so_far.families heard)
    (unselected limit so_far heard sel)) in
    absurd (let contra : copies_printed (Some printed) read own false ≡ [] = sym is ∙ none in cc)

-- where no entry is answered there is none
pub no_entry : (head : Option EntryHead) (text : List ℕ) → head ≡ None → [] ≡ headed_list head text
no_entry head text none = sym (ap (λ o. headed_list o text) none)

-- a receiver that has heard nothing
pub begins_together : (limit : ℕ) {M : Type 0} (content : M → List MemoryEntry) (start : Start)
    (receiver : CombiningReceiver M)
    → CombinedStands (first_setting start) receiver.synchroniser receiver.taker [] [] []
    → in_force (hearer_in receiver) ≡ first_setting start
    → StandsHolding limit receiver.combiner [] [] → receiver.sendings ≡ 0
    → start.entries ≡ content receiver.memory → length (content receiver.memory) ≤ most_entries
    → StandsAfterAllHolding limit content start receiver [] []
unfolding elements_among settings setting_after_all printed_combined combined_copies_holding
begins_together limit content start receiver stands force combiner none entries few =
    let all : last_of most_entries (content receiver.memory) ≡ content receiver.memory =
    ap (λ n. drop n (content receiver.memory))
    (let e : length (content receiver.memory) - most_entries ≡ 0 = omega arith in e) in
    record {
      copies = [];
      stands = stands;
      force = force;
      judged = record {
        printed = refl;
        memory = sym (ap (last_of most_entries) entries ∙ all);
        combiner = combiner;
        sendings = none;
      };
    }
