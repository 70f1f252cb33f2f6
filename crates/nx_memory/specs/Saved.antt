-- What a receiver keeps while it is switched off (this profile).
use Rattle.std.specs.Prelude.{ℕ, ◌≤◌, max, List, [], ◌∷◌, Option, Some, None, slice_get}
use Rattle.std.specs.FinSet as set
use Rattle.nx_envelope.specs.Moment.{last_moment}
use Rattle.nx_memory.specs.declared.memories.entry.MemoryEntry.{MemoryEntry}
use Rattle.nx_memory.specs.Content.{IsContent}
use Rattle.nx_memory.specs.Memory.{newest_of, newest_moment}
use Rattle.nx_memory.specs.Selection.{Refused, IsRefusable}

-- what is refused, and the entries, oldest first
pub record SavedState : Type 0 where
  pub refused : Refused
  pub entries : List MemoryEntry

-- the entries of a memory, none past the last moment
pub record AreSavedEntries (entries : List MemoryEntry) : Type 0 where
  pub content : IsContent entries
  pub in_range : newest_moment entries ≤ last_moment

-- what can be saved of a channel
pub record IsSavedState (saved : SavedState) : Type 0 where
  pub refused : IsRefusable saved.refused
  pub entries : AreSavedEntries saved.entries

-- nothing is refused, and there is no entry
abbrev pub nothing_saved : SavedState
nothing_saved = record {
  refused = record { stations = set.empty; subjects = set.empty };
  entries = [];
}

-- what is saved of the three channels
pub record SavedStates : Type 0 where
  pub on_0 : SavedState
  pub on_1 : SavedState
  pub on_2 : SavedState

-- each can be saved
pub record AreSavedStates (states : SavedStates) : Type 0 where
  pub on_0 : IsSavedState states.on_0
  pub on_1 : IsSavedState states.on_1
  pub on_2 : IsSavedState states.on_2

-- this is saved of channel 0, and nothing of the others
abbrev pub on_channel_0 : SavedState → SavedStates
on_channel_0 saved = record { on_0 = saved; on_1 = nothing_saved; on_2 = nothing_saved }

-- what is saved of a channel, by its number
abbrev pub saved_on : SavedStates → ℕ → Option SavedState
saved_on states channel = slice_get (states.on_0 ∷ states.on_1 ∷ states.on_2 ∷ []) channel

-- the later of two moments, where there are any
abbrev pub later_of : Option ℕ → Option ℕ → Option ℕ
later_of None second = second
later_of (Some first) None = Some first
later_of (Some first) (Some second) = Some (max first second)

-- the greatest of the moments of the newest entries
abbrev pub newest_of_all : SavedStates → Option ℕ
newest_of_all states =
    later_of
    (newest_of states.on_0.entries)
    (later_of (newest_of states.on_1.entries) (newest_of states.on_2.entries))
