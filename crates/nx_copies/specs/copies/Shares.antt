-- What the receivers of three channels are given, each its own share of it, and the copies that
-- they print (this profile).
use Rattle.std.specs.Prelude.{ℕ, if◌then◌else◌, List, [], ◌∷◌, filter, map, unwrap_or}
use Rattle.std.specs.List.{flat_map}
use Rattle.nx_fec.specs.air_files.Channels.{same_channel}
use Rattle.nx_fec.specs.declared.air_files.channel.Channel.{Channel}
use Rattle.nx_fec.specs.declared.air_files.channel.Channel.TheVariants.{Zero, One, Two}
use Rattle.nx_memory.specs.Saved.{SavedState, SavedStates, newest_of_all, nothing_saved}
use Rattle.nx_memory.specs.Selection.{Refused}
use Rattle.nx_memory.specs.declared.memories.entry.MemoryEntry.{MemoryEntry}
use Rattle.nx_copies.specs.Events.{Event, Start, at_moment, none_refused}
use Rattle.nx_copies.specs.copies.FoundCopies.{TaggedCopy}

-- What is given at once: a moment, which belongs to all channels; or elements or a command, which
-- belong to one.
pub data Given : Type 0 where
  to_all : ℕ → Given
  to_one : Channel → List Event → Given

-- what of it belongs to a channel
abbrev pub events_for : Channel → Given → List Event
events_for channel (to_all n) = at_moment n ∷ []
events_for channel (to_one other events) = if same_channel other channel then events else []

-- Share of a channel: the moments and what belongs to the channel, in order
abbrev pub share : Channel → List Given → List Event
share channel given = flat_map (events_for channel) given

-- what is saved of a channel
abbrev pub saved_of : SavedStates → Channel → SavedState
saved_of saved Zero = saved.on_0
saved_of saved One = saved.on_1
saved_of saved Two = saved.on_2

-- with what three receivers start: one first moment for all, and for each channel the entries of
-- the memory, oldest first, and what is refused at first
pub record Starts : Type 0 where
  pub moment : ℕ
  pub entries : Channel → List MemoryEntry
  pub refused : Channel → Refused

-- with what the receiver of a channel starts
abbrev pub start_on : Starts → Channel → Start
start_on starts channel = record {
  entries = starts.entries channel;
  moment = starts.moment;
  refused = starts.refused channel;
}

-- nothing is saved of any channel: there are no entries, and everything is selected
abbrev pub none_saved : SavedStates
none_saved = record { on_0 = nothing_saved; on_1 = nothing_saved; on_2 = nothing_saved }

-- three receivers start with what is saved, at the greatest moment of a saved entry, or 0 where
-- there is none: so no moment that they are given lies before an entry
abbrev pub starts_from : SavedStates → Starts
starts_from saved = record {
  moment = unwrap_or (newest_of_all saved) 0;
  entries = λ channel. (saved_of saved channel).entries;
  refused = λ channel. (saved_of saved channel).refused;
}

-- the start of three receivers that begin with nothing, at moment 0
abbrev pub all_at_zero : Starts
all_at_zero = record { moment = 0; entries = λ channel. []; refused = λ channel. none_refused }

-- a copy that is printed, and the channel on which it was heard
pub record MarkedCopy : Type 0 where
  pub channel : Channel
  pub copy : TaggedCopy

abbrev pub marked : Channel → TaggedCopy → MarkedCopy
marked channel copy = record { channel = channel; copy = copy }

-- the copies of a channel, in order
abbrev pub copies_on : Channel → List MarkedCopy → List TaggedCopy
copies_on channel copies =
    map (λ (one : MarkedCopy). one.copy)
    (filter (λ (one : MarkedCopy). same_channel one.channel channel) copies)
