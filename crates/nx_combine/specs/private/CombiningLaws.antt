-- The receiver that takes several sendings together meets the laws of a receiver of a channel.
use Rattle.std.specs.Prelude.{◌≡◌, ℕ, List, [], None}
use Rattle.std.proofs.Common.{◌∙◌, ap}
use Rattle.nx_memory.specs.declared.memories.entry.MemoryEntry.{MemoryEntry}
use Rattle.nx_copies.specs.Events.{Event, Start, elements_among, first_setting, settings}
use Rattle.nx_copies.specs.copies.FoundCopies.{TaggedCopy}
use Rattle.nx_receiver.specs.ChannelReceiver.{IsReceiver}
use Rattle.nx_combine.specs.CombinedHearing.{HaveBeenHeard, heard_by}
use Rattle.nx_combine.specs.CombinedPrinting.{HasPrintedHolding, printed_combined}
use Rattle.nx_combine.specs.CombinedReceiver.{AwaitsAfterAllHolding, CombiningReceiver}
use Rattle.nx_combine.specs.CombinedReceiver.{StandsAfterAllHolding}
use Rattle.nx_combine.specs.CombinedReceiver.{combined_kind_holding}
use Rattle.nx_combine.specs.CopyPositions.{HeardCopy, heard_copies}
use Rattle.nx_combine.specs.Families.{combined_copies_holding}
use Rattle.nx_combine.specs.Judging.{all_copies}
use Rattle.nx_combine.specs.private.laws.CombinedLaws.{holding-laws}

-- what is printed of copies that were heard
pub printed_of_heard : (limit : ℕ) (start : Start) (events : List Event) (copies : List HeardCopy)
    (log : List TaggedCopy)
    → HaveBeenHeard (first_setting start) (elements_among events)
    (settings (first_setting start) events) copies
    → log ≡ all_copies (printed_combined start.entries [] (combined_copies_holding limit [] copies))
    → HasPrintedHolding limit start events log
unfolding heard_copies heard_by
printed_of_heard limit start events copies log heard printed = record {
  locks = heard.locks;
  now = heard.now;
  stands = heard.stands;
  printed = printed
      ∙ ap (λ all. all_copies (printed_combined start.entries []
      (combined_copies_holding limit [] all)))
      heard.heard;
}

pub combining-receiver : (limit : ℕ) {M : Type 0} (content : M → List MemoryEntry)
    → IsReceiver (combined_kind_holding limit content)
combining-receiver limit content = record {
  printing = holding-laws limit;
  prints = λ start receiver events log s.
      printed_of_heard limit start events s.copies log s.stands.heard s.judged.printed;
  in_force = λ start receiver events log s. s.force;
}

-- where nothing is over, nothing is awaited
pub none-awaited : (limit : ℕ) {M : Type 0} (content : M → List MemoryEntry) (start : Start)
    (receiver : CombiningReceiver M) (events : List Event) (log : List TaggedCopy)
    → AwaitsAfterAllHolding limit content start receiver events log None
    → StandsAfterAllHolding limit content start receiver events log
none-awaited limit content start receiver events log a =
    record { copies = a.copies; stands = a.over; force = a.force; judged = a.judged }
