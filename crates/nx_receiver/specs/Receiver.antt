-- What a receiver holds, and after which events: the layer contract (this profile).
use Rattle.std.specs.Prelude.{◌≡◌, ◌⊎◌, ℕ, ◌<◌, ◌≤◌, Bool, true, List, [], ◌∷◌, ◌++◌}
use Rattle.std.specs.Prelude.{Option, Some, None}
use Rattle.nx_code.specs.Lists.{last_of}
use Rattle.nx_envelope.specs.Copies.{errors_of}
use Rattle.nx_envelope.specs.Moment.{last_moment}
use Rattle.nx_memory.specs.Memory.{most_entries}
use Rattle.nx_memory.specs.declared.memories.entry.MemoryEntry.{MemoryEntry}
use Rattle.nx_copies.specs.declared.entry.Entry.{Entry}
use Rattle.nx_copies.specs.declared.entry.EntryHead.{EntryHead}
use Rattle.nx_receiver.specs.ChannelReceiver.{HandsOutNoneBeforeBy, ReceiverKind, TakesEventBy}
use Rattle.nx_receiver.specs.declared.fault.ReceiverFault.{ReceiverFault}
use Rattle.nx_receiver.specs.declared.fault.ReceiverFault.TheVariants.{MomentRange, Memory}
use Rattle.nx_copies.specs.Events.{Event, Start, Setting, elements_among, first_setting, settings}
use Rattle.nx_copies.specs.Events.{setting_after_all, elements}
use Rattle.nx_copies.specs.copies.Log.{plain}
use Rattle.nx_copies.specs.copies.Printing.{printed_copies, entries_after}
use Rattle.nx_copies.specs.copies.FoundCopies.{TaggedCopy, copy_of, headed_copy}
use Rattle.nx_copies.specs.hearing.CopyHearer.{HearerStands}
use Rattle.nx_copies.specs.hearing.CopyHearing.{CopyHearing, in_force}

-- what contracts see of a receiver: its hearer, and its memory
pub record Receiving (M : Type 0) : Type 0 where
  pub hearer : CopyHearing
  pub memory : M

-- The receiver stands after these events, which begin with this start, and this is the log of what
-- it handed out. Its hearer stands after the elements, with what is in force at each, and what is in
-- force now is so after all events. The log is what is printed of the copies that have ended. The
-- memory, whose content this function tells, holds the last of all entries made.
pub record StandsOver {M : Type 0} (content : M → List MemoryEntry) (start : Start)
    (receiver : Receiving M) (bits : List Bool) (settings : List Setting) (now : Setting)
    (log : List TaggedCopy) : Type 0 where
  pub copies : List TaggedCopy
  pub hearer : HearerStands (first_setting start) receiver.hearer bits settings copies
  pub force : in_force receiver.hearer ≡ now
  pub printed : log ≡ printed_copies start.entries copies
  pub memory : content receiver.memory ≡ last_of most_entries (entries_after start.entries copies)

abbrev pub Stands : {M : Type 0} → (M → List MemoryEntry) → Start → Receiving M → List Event
    → List TaggedCopy → Type 0
Stands content start receiver events log =
    StandsOver content start receiver (elements_among events)
    (settings (first_setting start) events)
    (setting_after_all (first_setting start) events) log

-- the text that a receiver has: of the copy that stands open, or that ended last
abbrev pub text_of : {M : Type 0} → Receiving M → List ℕ
text_of receiver = receiver.hearer.reader.finder.text

-- what there is to say of the plain receiver, which judges each copy alone, over a memory whose
-- content this function tells
abbrev pub plain_kind : {M : Type 0} → (M → List MemoryEntry) → ReceiverKind (Receiving M)
plain_kind content = record {
  printing = plain;
  stands = Stands content;
  start_of = λ receiver. record {
    entries = content receiver.memory;
    moment = receiver.hearer.moment;
    refused = receiver.hearer.refused;
  };
  text_of = text_of;
}

-- such a receiver takes this event, whatever it was given before, and hands out nothing; and it
-- hands out nothing before the last of the first `count` of these elements
abbrev pub TakesEvent : {M : Type 0} → (M → List MemoryEntry) → Receiving M → Receiving M → Event
    → Type 0
TakesEvent content old new event = TakesEventBy (plain_kind content) old new event

abbrev pub HandsOutNoneBefore : {M : Type 0} → (M → List MemoryEntry) → Receiving M → List Bool → ℕ
    → Type 0
HandsOutNoneBefore content old bits count =
    HandsOutNoneBeforeBy (plain_kind content) old bits count

-- the entry that was handed out, as the copy that it prints
abbrev pub entry_list : Option Entry → List TaggedCopy
entry_list None = []
entry_list (Some entry) = copy_of entry ∷ []

-- the copy that is printed, by its head and its text, where there is a head
abbrev pub headed_list : Option EntryHead → List ℕ → List TaggedCopy
headed_list None text = []
headed_list (Some head) text = headed_copy head text true ∷ []

-- the head says the errors of this text, and a moment that is in range
pub record HeadsText (head : EntryHead) (text : List ℕ) : Type 0 where
  pub errors : head.errors ≡ errors_of text
  pub in_range : head.moment ≤ last_moment

-- why a receiver is not made: its first moment is past the last one, or before the newest of its
-- memory; or else there is no memory for it
abbrev pub RefusesStart : ℕ → ℕ → ReceiverFault → Type 0
RefusesStart newest moment MomentRange = (last_moment < moment) ⊎ (moment < newest)
RefusesStart newest moment (Memory refused) = (moment ≤ last_moment) × (newest ≤ moment)

-- the elements of these pieces, one after another
unfoldable pub elements_of_pieces : List (List Bool) → List Bool
elements_of_pieces [] = []
elements_of_pieces (piece ∷ pieces) = piece ++ elements_of_pieces pieces

-- the events of these pieces, of which one is fed after the other
unfoldable pub events_of_pieces : List (List Bool) → List Event
events_of_pieces [] = []
events_of_pieces (piece ∷ pieces) = elements piece ++ events_of_pieces pieces
