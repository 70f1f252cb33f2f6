-- What a receiver that takes several sendings together holds, and after which events: the layer
-- contract (this profile). `held` is how many families are held.
use Rattle.std.specs.Prelude.{◌≡◌, ℕ, Bool, List, [], Option, if◌then◌else◌}
use Rattle.nx_code.specs.Lists.{last_of}
use Rattle.nx_memory.specs.Content.{last_known}
use Rattle.nx_memory.specs.Memory.{most_entries}
use Rattle.nx_memory.specs.Saved.{SavedState}
use Rattle.nx_memory.specs.declared.memories.entry.MemoryEntry.{MemoryEntry}
use Rattle.nx_sync.specs.Locks.{IsNow, Lock, Now}
use Rattle.nx_sync.specs.Synchroniser.{Held}
use Rattle.nx_copies.specs.Events.{Event, Setting, Start, elements_among, first_setting}
use Rattle.nx_copies.specs.Events.{setting_after_all, settings}
use Rattle.nx_copies.specs.copies.FoundCopies.{TaggedCopy}
use Rattle.nx_copies.specs.declared.copy_taker.Over.{Over}
use Rattle.nx_copies.specs.hearing.CopyHearing.{CopyHearing, in_force}
use Rattle.nx_copies.specs.hearing.CopyTaker.{hearer_of}
use Rattle.nx_receiver.specs.ChannelReceiver.{ReceiverKind}
use Rattle.nx_combine.specs.CombinedHearing.{CombinedOver, CombinedStands}
use Rattle.nx_combine.specs.CombinedPrinting.{combined_holding, printed_combined}
use Rattle.nx_combine.specs.CopyPositions.{HeardCopy, PlacedCopy, ended_placed, heard_copies}
use Rattle.nx_combine.specs.Families.{combined_copies_holding, most_families}
use Rattle.nx_combine.specs.Judging.{CombinerView, HeldFamilies, Judged, StandsHolding, all_copies}
use Rattle.nx_combine.specs.Judging.{combiner_of, sendings_of_last}
use Rattle.nx_envelope.specs.FinderView.{FinderView}
use Rattle.nx_combine.specs.Judging.{judged_behind_holding}
use Rattle.nx_combine.specs.declared.taker.CombinedTaker.{CombinedTaker}

-- what is left before any copy came, with these entries in the memory
abbrev pub judged_none : List MemoryEntry → Judged
judged_none entries = record { entries = entries; families = []; printed = [] }

-- what contracts see of a receiver that combines: its synchroniser, its taker, what judges, whether
-- the text of the entry that it handed out last is what a family gave, from how many sendings that
-- entry is put together, and its memory
pub record CombiningReceiver (M : Type 0) : Type 0 where
  pub synchroniser : Held
  pub taker : CombinedTaker
  pub combiner : CombinerView
  pub is_given : Bool
  pub sendings : ℕ
  pub memory : M

-- what contracts see of such a receiver whose families lie anywhere: in place of what judges, what
-- holds them, and the finder that reads joined positions
pub record ReceiverOver (S M : Type 0) : Type 0 where
  pub synchroniser : Held
  pub taker : CombinedTaker
  pub store : S
  pub finder : FinderView
  pub is_given : Bool
  pub sendings : ℕ
  pub memory : M

-- the same with the families that are held, in this room
abbrev pub receiver_in : {S P M : Type 0} → (S → List P → HeldFamilies) → ReceiverOver S M
    → List P → CombiningReceiver M
receiver_in held receiver places = record {
  synchroniser = receiver.synchroniser;
  taker = receiver.taker;
  combiner = combiner_of (held receiver.store places) receiver.finder;
  is_given = receiver.is_given;
  sendings = receiver.sendings;
  memory = receiver.memory;
}

-- and where what holds them needs no room
abbrev pub receiver_held : {M : Type 0} → ReceiverOver HeldFamilies M → CombiningReceiver M
receiver_held receiver = record {
  synchroniser = receiver.synchroniser;
  taker = receiver.taker;
  combiner = combiner_of receiver.store receiver.finder;
  is_given = receiver.is_given;
  sendings = receiver.sendings;
  memory = receiver.memory;
}

-- the text that it has, in whichever room
abbrev pub text_over : {S M : Type 0} → ReceiverOver S M → List ℕ
text_over receiver =
    if receiver.is_given then receiver.finder.text else receiver.taker.copies.reader.finder.text

-- its hearer of copies
abbrev pub hearer_in : {M : Type 0} → CombiningReceiver M → CopyHearing
hearer_in receiver = hearer_of receiver.synchroniser receiver.taker.copies

-- the text that it has: what the family gave of which it printed a copy last, or that of the copy
-- that stands open, or that ended last
abbrev pub text_in : {M : Type 0} → CombiningReceiver M → List ℕ
text_in receiver =
    if receiver.is_given then receiver.combiner.finder.text
    else receiver.taker.copies.reader.finder.text

-- After these copies, which begin with this start, this was printed of them, and the combiner and
-- the memory hold what they left, and the number of sendings that of the last that was printed.
-- This tells the entries of a memory.
pub record HasJudged (held : ℕ) {M : Type 0} (content : M → List MemoryEntry) (start : Start)
    (receiver : CombiningReceiver M) (copies : List HeardCopy) (log : List TaggedCopy) : Type 0
  where
    pub printed : log
        ≡ all_copies
        (printed_combined start.entries [] (combined_copies_holding held [] copies))
    pub memory : content receiver.memory
        ≡ last_of most_entries
        (judged_behind_holding held (judged_none start.entries) copies).entries
    pub combiner : StandsHolding held receiver.combiner
        (judged_behind_holding held (judged_none start.entries) copies).families
        (judged_behind_holding held (judged_none start.entries) copies).printed
    pub sendings : receiver.sendings
        ≡ sendings_of_last (judged_behind_holding held (judged_none start.entries) copies).printed

-- The receiver stands after these events, which begin with this start, and this is the log of what
-- it handed out. Its synchroniser and its taker stand after the elements, with what is in force at
-- each, and what is in force now is so after all events. The log is what is printed of the copies
-- that have ended.
pub record StandsTogether (held : ℕ) {M : Type 0} (content : M → List MemoryEntry) (start : Start)
    (receiver : CombiningReceiver M) (bits : List Bool) (settings : List Setting) (now : Setting)
    (log : List TaggedCopy) : Type 0 where
  pub copies : List HeardCopy
  pub stands : CombinedStands (first_setting start) receiver.synchroniser receiver.taker bits
      settings copies
  pub force : in_force (hearer_in receiver) ≡ now
  pub judged : HasJudged held content start receiver copies log

abbrev pub StandsAfterAllHolding : ℕ → {M : Type 0} → (M → List MemoryEntry) → Start
    → CombiningReceiver M → List Event → List TaggedCopy → Type 0
StandsAfterAllHolding held content start receiver events log =
    StandsTogether held content start receiver (elements_among events)
    (settings (first_setting start) events)
    (setting_after_all (first_setting start) events) log

-- The receiver stands so but for what is over with the last element, which is yet to be finished:
-- the log is what is printed of the copies that ended before it.
pub record AwaitsTogether (held : ℕ) {M : Type 0} (content : M → List MemoryEntry) (start : Start)
    (receiver : CombiningReceiver M) (bits : List Bool) (settings : List Setting) (now : Setting)
    (log : List TaggedCopy) (answer : Option Over) : Type 0 where
  pub copies : List HeardCopy
  pub over : CombinedOver (first_setting start) receiver.synchroniser receiver.taker bits settings
      copies answer
  pub force : in_force (hearer_in receiver) ≡ now
  pub judged : HasJudged held content start receiver copies log

abbrev pub AwaitsAfterAllHolding : ℕ → {M : Type 0} → (M → List MemoryEntry) → Start
    → CombiningReceiver M → List Event → List TaggedCopy → Option Over → Type 0
AwaitsAfterAllHolding held content start receiver events log answer =
    AwaitsTogether held content start receiver (elements_among events)
    (settings (first_setting start) events)
    (setting_after_all (first_setting start) events) log answer

-- such receivers: what they print is what several sendings come to
abbrev pub combined_kind_holding : ℕ → {M : Type 0} → (M → List MemoryEntry)
    → ReceiverKind (CombiningReceiver M)
combined_kind_holding held content = record {
  printing = combined_holding held;
  stands = StandsAfterAllHolding held content;
  start_of = λ receiver. record {
    entries = content receiver.memory;
    moment = receiver.taker.copies.moment;
    refused = receiver.taker.copies.selection;
  };
  text_of = text_in;
}

-- the same where 200 families are held
abbrev pub StandsAfterAll : {M : Type 0} → (M → List MemoryEntry) → Start → CombiningReceiver M
    → List Event → List TaggedCopy → Type 0
StandsAfterAll content = StandsAfterAllHolding most_families content

abbrev pub AwaitsAfterAll : {M : Type 0} → (M → List MemoryEntry) → Start → CombiningReceiver M
    → List Event → List TaggedCopy → Option Over → Type 0
AwaitsAfterAll content = AwaitsAfterAllHolding most_families content

abbrev pub combined_kind : {M : Type 0} → (M → List MemoryEntry)
    → ReceiverKind (CombiningReceiver M)
combined_kind content = combined_kind_holding most_families content

-- contracts see a memory that enters what it knows as its entries
abbrev pub its_entries : List MemoryEntry → List MemoryEntry
its_entries entries = entries

-- all entries after the copies that were found: those with which a receiver starts, and those that
-- are made of the combined copies
abbrev pub entries_of_placed_holding : ℕ → Start → List Event → List PlacedCopy
    → List MemoryEntry
entries_of_placed_holding held start events copies =
    (judged_behind_holding held (judged_none start.entries)
    (heard_copies (first_setting start) events copies)).entries

-- What a receiver leaves that is switched off after these events. First, the last 200 of all
-- entries of the copies that have ended, but those behind which one of their identity stands less
-- than 66 hours later. And second, what is refused after all commands. So a copy that stands open
-- is no part of it, nor are families.
pub record LeavesHolding (held : ℕ) (start : Start) (events : List Event) (left : SavedState)
    : Type 0 where
  pub locks : List Lock
  pub now : Now
  pub stands : IsNow (elements_among events) locks now
  pub entries : left.entries
      ≡ last_known (last_of most_entries
      (entries_of_placed_holding held start events
      (ended_placed (elements_among events) locks now)))
  pub refused : left.refused ≡ (setting_after_all (first_setting start) events).refused
