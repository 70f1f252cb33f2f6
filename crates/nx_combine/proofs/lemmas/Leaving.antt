-- What a receiver that takes several sendings together leaves when it is switched off.
use Rattle.std.proofs.Common.{◌≡◌, ℕ, List, ap, ◌∙◌}
use Rattle.nx_code.specs.Lists.{last_of}
use Rattle.nx_memory.specs.Content.{last_known}
use Rattle.nx_memory.specs.Memory.{most_entries}
use Rattle.nx_memory.specs.Saved.{SavedState}
use Rattle.nx_memory.specs.declared.memories.entry.MemoryEntry.{MemoryEntry}
use Rattle.nx_copies.specs.Events.{Event, Setting, Start, elements_among, first_setting, settings}
use Rattle.nx_copies.specs.copies.FoundCopies.{TaggedCopy}
use Rattle.nx_combine.specs.CombinedHearing.{HaveBeenHeard, heard_by}
use Rattle.nx_combine.specs.CombinedReceiver.{CombiningReceiver, LeavesHolding}
use Rattle.nx_combine.specs.CombinedReceiver.{StandsAfterAllHolding, entries_of_placed_holding}
use Rattle.nx_combine.specs.CombinedReceiver.{judged_none}
use Rattle.nx_combine.specs.CopyPositions.{HeardCopy, ended_placed, heard_copies}
use Rattle.nx_combine.specs.Judging.{judged_behind_holding}

-- all entries after copies that were heard
entries_of_heard : (held : ℕ) (start : Start) (events : List Event) (copies : List HeardCopy)
    (heard : HaveBeenHeard (first_setting start) (elements_among events)
    (settings (first_setting start) events) copies)
    → (judged_behind_holding held (judged_none start.entries) copies).entries
    ≡ entries_of_placed_holding held start events
    (ended_placed (elements_among events) heard.locks heard.now)
unfolding heard_copies heard_by
entries_of_heard held start events copies heard =
    ap (λ all. (judged_behind_holding held (judged_none start.entries) all).entries) heard.heard

-- a receiver that stands after events holds what it leaves
pub held_left : (held : ℕ) {M : Type 0} (content : M → List MemoryEntry) (start : Start)
    (events : List Event) (receiver : CombiningReceiver M) (log : List TaggedCopy)
    (left : SavedState) → StandsAfterAllHolding held content start receiver events log
    → left.entries ≡ last_known (content receiver.memory)
    → left.refused ≡ receiver.taker.copies.selection → LeavesHolding held start events left
held_left held content start events receiver log left s entries refused =
    let heard = s.stands.heard in
    record {
      locks = heard.locks;
      now = heard.now;
      stands = heard.stands;
      entries = entries
          ∙ ap last_known (s.judged.memory
          ∙ ap (last_of most_entries) (entries_of_heard held start events s.copies heard));
      refused = refused ∙ ap (λ (f : Setting). f.refused) s.force;
    }
