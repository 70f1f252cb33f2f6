-- A receiver that takes several sendings together hears elements.
use Rattle.std.proofs.Common.{◌≡◌, ℕ, ◌-◌, ◌≤◌, Bool, List, ◌++◌, Option, length, take, drop}
use Rattle.std.proofs.Common.{sym, ap, ◌∙◌, subst, arith, length-drop, []}
use Rattle.std.proofs.lemmas.List.{length-take, take-take}
use Rattle.nx_code.specs.Packed.{elements_of_numbers, packed_part}
use Rattle.nx_memory.specs.declared.memories.entry.MemoryEntry.{MemoryEntry}
use Rattle.nx_sync.proofs.lemmas.hunting.PackedParts.{first_part}
use Rattle.nx_sync.specs.Synchroniser.{Held}
use Rattle.nx_copies.specs.Events.{Event, Start, elements, elements_among, first_setting}
use Rattle.nx_copies.specs.Events.{setting_after_all, settings}
use Rattle.nx_copies.specs.WordLoop.{HearsPart}
use Rattle.nx_copies.specs.copies.FoundCopies.{TaggedCopy}
use Rattle.nx_copies.specs.declared.copy_taker.Over.{Over}
use Rattle.nx_copies.specs.hearing.CopyHearer.{all_in_force}
use Rattle.nx_copies.proofs.lemmas.copy_hearer.Packed.{all_is}
use Rattle.nx_receiver.specs.ChannelReceiver.{HandsOutNoneBeforeBy, HearsUpToBy}
use Rattle.nx_receiver.proofs.lemmas.receiver.Events.{bits_of-more, force-more, settings-more}
use Rattle.nx_combine.specs.CombinedHearing.{HaveAllBeenHeard, HaveBeenHeard, heard_by}
use Rattle.nx_combine.specs.CombinedPrinting.{PrintsHoldingToEnd, printed_combined}
use Rattle.nx_combine.specs.CombinedReceiver.{AwaitsAfterAllHolding, AwaitsTogether}
use Rattle.nx_combine.specs.CombinedReceiver.{CombiningReceiver}
use Rattle.nx_combine.specs.CombinedReceiver.{StandsAfterAllHolding, combined_kind_holding}
use Rattle.nx_combine.specs.CombinedReceiver.{hearer_in}
use Rattle.nx_combine.specs.CombinedTaker.{Hears}
use Rattle.nx_combine.specs.CopyPositions.{HeardCopy, heard_copies}
use Rattle.nx_combine.specs.Families.{combined_copies_holding}
use Rattle.nx_combine.specs.Judging.{all_copies}
use Rattle.nx_combine.specs.declared.taker.CombinedTaker.{CombinedTaker}
use Rattle.nx_combine.specs.private.CombiningLaws.{printed_of_heard}
use Rattle.nx_combine.proofs.lemmas.Hearing.{hears_heard}

-- the receiver with another synchroniser and taker
abbrev pub with_taker : {M : Type 0} → CombiningReceiver M → Held → CombinedTaker
    → CombiningReceiver M
with_taker receiver held taker = record receiver { synchroniser = held; taker = taker }

-- a synchroniser and a taker heard these elements, and what is over with the last of them is
-- awaited
together_on : (limit : ℕ) {M : Type 0} (content : M → List MemoryEntry) (old : CombiningReceiver M)
    (held : Held) (taker : CombinedTaker) (bits : List Bool) (answer : Option Over)
    → Hears old.synchroniser old.taker bits held taker answer
    → HearsUpToBy (combined_kind_holding limit content) (AwaitsAfterAllHolding limit content) old
    (with_taker old held taker)
    bits answer
together_on limit content old held taker bits answer hears start events log s =
    let first = first_setting start in
    let before = elements_among events in
    let forces = settings first events in
    let new = with_taker old held taker in
    let heard = hears_heard old.synchroniser held old.taker taker bits answer hears first before
    forces s.copies s.stands in
    let over : AwaitsTogether limit content start new (before ++ bits)
    (forces ++ all_in_force (hearer_in old) bits) (setting_after_all first events) log answer =
    record {
      copies = s.copies;
      over = heard.brings;
      force = hears.copies.force ∙ s.force;
      judged = record {
        printed = s.judged.printed;
        memory = s.judged.memory;
        combiner = s.judged.combiner;
        sendings = s.judged.sendings;
      };
    } in
    let all = events ++ elements bits in
    let h = subst (λ h. AwaitsTogether limit content start new h
    (forces ++ all_in_force (hearer_in old) bits) (setting_after_all first events) log answer)
    (sym (bits_of-more events bits)) over in
    let t = subst (λ t. AwaitsTogether limit content start new (elements_among all) t
    (setting_after_all first events) log answer)
    (sym (settings-more first (hearer_in old) events bits s.force)) h in
    subst (λ now. AwaitsTogether limit content start new (elements_among all)
    (settings first all) now log
    answer) (sym (force-more first events bits)) t

-- what is printed of copies that were heard, to the end
pub printed_to_end : (limit : ℕ) (start : Start) (events : List Event) (copies : List HeardCopy)
    (log : List TaggedCopy)
    → HaveAllBeenHeard (first_setting start) (elements_among events)
    (settings (first_setting start) events) copies
    → log ≡ all_copies (printed_combined start.entries [] (combined_copies_holding limit [] copies))
    → PrintsHoldingToEnd limit start events log
unfolding heard_copies heard_by
printed_to_end limit start events copies log heard printed = record {
  locks = heard.locks;
  now = heard.now;
  stands = heard.stands;
  printed = printed
      ∙ ap (λ all. all_copies (printed_combined start.entries []
      (combined_copies_holding limit [] all)))
      heard.heard;
}

-- and nothing was printed before the last of the elements
together_before : (limit : ℕ) {M : Type 0} (content : M → List MemoryEntry)
    (old : CombiningReceiver M)
    (held : Held) (taker : CombinedTaker) (bits : List Bool) (n : ℕ) (answer : Option Over)
    → n ≤ length bits → Hears old.synchroniser old.taker (take n bits) held taker answer
    → HandsOutNoneBeforeBy (combined_kind_holding limit content) old bits n
together_before limit content old held taker bits n answer within hears start events log s k lt =
    let first = first_setting start in
    let before = elements_among events in
    let forces = settings first events in
    let heard = hears_heard old.synchroniser held old.taker taker (take n bits) answer hears first
    before forces s.copies s.stands in
    let some = take k bits in
    let same : take k (take n bits) ≡ some = take-take k n bits (omega arith) in
    let ended = subst (λ l. HaveBeenHeard first (before ++ l)
    (forces ++ all_in_force (hearer_in old) l) s.copies) same
    (heard.none_before k (omega (arith, length-take n bits))) in
    let h = subst (λ h. HaveBeenHeard first h (forces ++ all_in_force (hearer_in old) some)
    s.copies) (sym (bits_of-more events some)) ended in
    let t = subst (λ t. HaveBeenHeard first (elements_among (events ++ elements some)) t s.copies)
    (sym (settings-more first (hearer_in old) events some s.force)) h in
    printed_of_heard limit start (events ++ elements some) s.copies log t s.judged.printed

-- A part of all packed elements from a place on was heard: what is over with the last of them is
-- awaited, and nothing was printed before it.
module _ (limit : ℕ) {M : Type 0} (content : M → List MemoryEntry) (whole old : CombiningReceiver M)
    (all : List Bool) (numbers : List ℕ) (from count : ℕ) (new : Held) (after : CombinedTaker)
    (heard : ℕ × Option Over) (view : old ≡ whole)
    (is : all ≡ take (length all) (elements_of_numbers numbers)) (room : from ≤ length all)
    (rest : count ≡ length all - from)
    (part : HearsPart Hears old.synchroniser old.taker numbers from count new after heard) where
  hears_part : Hears old.synchroniser old.taker (take heard.0 (drop from all)) new after heard.1
  hears_part =
      let same : packed_part numbers from heard.0 ≡ take heard.0 (drop from all) =
      sym (first_part numbers from count heard.0 part.within)
      ∙ ap (take heard.0) (ap (packed_part numbers from) rest ∙ all_is all numbers from is room) in
      subst (λ bits. Hears old.synchroniser old.taker bits new after heard.1) same part.hears

  pub part_together : HearsUpToBy (combined_kind_holding limit content)
      (AwaitsAfterAllHolding limit content) whole
      (with_taker old new after) (take heard.0 (drop from all)) heard.1
  part_together start events log s =
      together_on limit content old new after
      (take heard.0 (drop from all)) heard.1 hears_part start
      events log (subst (λ r. StandsAfterAllHolding limit content start r events log) (sym view) s)

  pub none_before_together : HandsOutNoneBeforeBy (combined_kind_holding limit content) whole
      (drop from all)
      heard.0
  none_before_together start events log s k lt =
      together_before limit content old new after (drop from all) heard.0 heard.1
      (omega (arith, part.within, rest, length-drop from all)) hears_part start events log
      (subst (λ r. StandsAfterAllHolding limit content start r events log) (sym view) s) k lt
