-- What a receiver holds between its calls: what is over and awaits to be finished, and in which
-- order its moments stand (this profile).
use Rattle.std.specs.Prelude.{◌≡◌, ℕ, ◌≤◌, Bool, List, Option}
use Rattle.nx_code.specs.Lists.{last_of}
use Rattle.nx_envelope.specs.Moment.{last_moment}
use Rattle.nx_memory.specs.Memory.{most_entries}
use Rattle.nx_memory.specs.declared.memories.entry.MemoryEntry.{MemoryEntry}
use Rattle.nx_copies.specs.Events.{Event, Start, Setting, elements_among, first_setting, settings}
use Rattle.nx_copies.specs.Events.{setting_after_all}
use Rattle.nx_copies.specs.copies.FoundCopies.{TaggedCopy}
use Rattle.nx_copies.specs.copies.Printing.{printed_copies, entries_after}
use Rattle.nx_receiver.specs.ChannelReceiver.{HearsUpToBy}
use Rattle.nx_receiver.specs.Receiver.{Receiving, plain_kind}
use Rattle.nx_copies.specs.declared.copy_taker.Over.{Over}
use Rattle.nx_copies.specs.hearing.CopyHearer.{IsOver}
use Rattle.nx_copies.specs.hearing.CopyHearing.{in_force}

-- The receiver stands after these elements but for what is over with the last of them, which is yet
-- to be finished: the log is what is printed of the copies that ended before it.
pub record AwaitsOver {M : Type 0} (content : M → List MemoryEntry) (start : Start)
    (receiver : Receiving M) (bits : List Bool) (settings : List Setting) (now : Setting)
    (log : List TaggedCopy) (over : Option Over) : Type 0 where
  pub copies : List TaggedCopy
  pub hearer : IsOver (first_setting start) receiver.hearer bits settings copies over
  pub force : in_force receiver.hearer ≡ now
  pub printed : log ≡ printed_copies start.entries copies
  pub memory : content receiver.memory ≡ last_of most_entries (entries_after start.entries copies)

abbrev pub Awaits : {M : Type 0} → (M → List MemoryEntry) → Start → Receiving M → List Event
    → List TaggedCopy → Option Over → Type 0
Awaits content start receiver events log over =
    AwaitsOver content start receiver (elements_among events)
    (settings (first_setting start) events)
    (setting_after_all (first_setting start) events) log over

-- the plain receiver hears these elements, and awaits what is over with the last of them
abbrev pub HearsUpTo : {M : Type 0} → (M → List MemoryEntry) → Receiving M → Receiving M
    → List Bool → Option Over → Type 0
HearsUpTo content old new bits over =
    HearsUpToBy (plain_kind content) (Awaits content) old new bits over

-- the moment of the memory's newest entry, that of the header that was heard last, the one in force
-- and the last one rise in this order
pub record IsInOrder (newest copy now : ℕ) : Type 0 where
  pub newest_first : newest ≤ copy
  pub copy_next : copy ≤ now
  pub in_range : now ≤ last_moment
