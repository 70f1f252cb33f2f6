-- How the text of a state is read, and what of it has been read.
use Rattle.std.specs.Prelude.{◌≡◌, ◌≢◌, ℕ, ◌≤◌, ◌==◌, nat_le, nat_lt, Bool, true, false, not, ◌&&◌, if◌then◌else◌, Option, Some, None, List, [], ◌∷◌, ◌++◌, codes, length}
use Rattle.std.specs.Char.{is_ascii_uppercase}
use Rattle.std.specs.FinSet as set
use Rattle.std.specs.List.{list_all}
use Rattle.std.specs.Str.{bytes_eq}
use Rattle.nx_envelope.specs.Moment.{last_moment}
use Rattle.nx_memory.specs.Memory.{most_entries, newest_moment, is_known}
use Rattle.nx_memory.specs.Saved.{SavedState, SavedStates, IsSavedState, nothing_saved}
use Rattle.nx_memory.specs.Selection.{is_vital}
use Rattle.nx_memory.specs.StateText.{rising, section}
use Rattle.nx_memory.specs.declared.state.saved_line.SavedLine.{SavedLine}
use Rattle.nx_memory.specs.declared.state.saved_line.SavedLine.TheVariants.{Station, Subject, Entry}
use Rattle.nx_memory.specs.declared.state.state_reader.StateStage.{StateStage}
use Rattle.nx_memory.specs.declared.state.state_reader.StateStage.TheVariants.{Start, Version1, Version2, Channel0, Channel1, Channel2}

-- the line has a spelling within 16 bytes
abbrev pub IsSpelled : SavedLine → Type 0
IsSpelled (Station letter) = Unit {0}
IsSpelled (Subject letter) = Unit {0}
IsSpelled (Entry entry) = entry.moment ≤ last_moment

-- the letter is behind all of these
abbrev pub is_behind : ℕ → List ℕ → Bool
is_behind letter letters = list_all (λ before. nat_lt before letter) letters

-- a further line may stand behind what is said so far: stations before subjects, subjects before
-- entries, letters in rising order, and an entry as a memory takes it
unfoldable pub takes : SavedState → SavedLine → Bool
takes saved (Station letter) =
    is_ascii_uppercase letter
    && ((length saved.entries == 0)
    && ((length (rising saved.refused.subjects) == 0)
    && is_behind letter (rising saved.refused.stations)))
takes saved (Subject letter) =
    is_ascii_uppercase letter
    && (not (is_vital letter)
    && ((length saved.entries == 0)
    && is_behind letter (rising saved.refused.subjects)))
takes saved (Entry entry) =
    nat_lt (length saved.entries) most_entries
    && (nat_lt 0 entry.identity.number
    && (nat_le (newest_moment saved.entries) entry.moment
    && not (is_known entry.identity entry.moment saved.entries)))

-- what is saved where one more line says so
abbrev pub with_line : SavedState → SavedLine → SavedState
with_line saved (Station letter) = record saved {
  refused = record saved.refused { stations = set.insert saved.refused.stations letter };
}
with_line saved (Subject letter) = record saved {
  refused = record saved.refused { subjects = set.insert saved.refused.subjects letter };
}
with_line saved (Entry entry) = record saved { entries = saved.entries ++ entry ∷ [] }

-- no lines of a channel begin with those of what is saved and this one
abbrev pub IsRefused : SavedState → List ℕ → Type 0
IsRefused saved line =
    (later : SavedState) (more : List (List ℕ)) → IsSavedState later
    → section later ≢ section saved ++ line ∷ more

-- the stage of the reading that a line opens, where it says nothing of a channel itself
abbrev pub opened : StateStage → List ℕ → Option StateStage
opened Start line =
    if bytes_eq line (codes "STATE 1") then Some Version1
    else (if bytes_eq line (codes "STATE 2") then Some Version2 else None)
opened Version1 line = None
opened Version2 line = if bytes_eq line (codes "C0") then Some Channel0 else None
opened Channel0 line = if bytes_eq line (codes "C1") then Some Channel1 else None
opened Channel1 line = if bytes_eq line (codes "C2") then Some Channel2 else None
opened Channel2 line = None

-- the last line of a text may stand here
abbrev pub may_end : StateStage → Bool
may_end Version1 = true
may_end Channel2 = true
may_end _ = false

-- the lines that were read
abbrev pub lines_read : StateStage → SavedStates → List (List ℕ)
lines_read Start states = []
lines_read Version1 states = codes "STATE 1" ∷ section states.on_0
lines_read Version2 states = codes "STATE 2" ∷ []
lines_read Channel0 states = codes "STATE 2" ∷ codes "C0" ∷ section states.on_0
lines_read Channel1 states =
    codes "STATE 2" ∷ codes "C0" ∷ (section states.on_0 ++ codes "C1" ∷ section states.on_1)
lines_read Channel2 states =
    codes "STATE 2"
    ∷ codes "C0" ∷ (section states.on_0
    ++ codes "C1" ∷ (section states.on_1 ++ codes "C2" ∷ section states.on_2))

-- the channels whose lines haven't begun are new
abbrev pub IsAhead : StateStage → SavedStates → Type 0
IsAhead Start states =
    (states.on_0 ≡ nothing_saved) × (states.on_1 ≡ nothing_saved) × (states.on_2 ≡ nothing_saved)
IsAhead Version1 states = (states.on_1 ≡ nothing_saved) × (states.on_2 ≡ nothing_saved)
IsAhead Version2 states =
    (states.on_0 ≡ nothing_saved) × (states.on_1 ≡ nothing_saved) × (states.on_2 ≡ nothing_saved)
IsAhead Channel0 states = (states.on_1 ≡ nothing_saved) × (states.on_2 ≡ nothing_saved)
IsAhead Channel1 states = states.on_2 ≡ nothing_saved
IsAhead Channel2 states = Unit {0}

-- what was read can be saved, and the rest is new
pub record IsReading (stage : StateStage) (states : SavedStates) : Type 0 where
  pub on_0 : IsSavedState states.on_0
  pub on_1 : IsSavedState states.on_1
  pub on_2 : IsSavedState states.on_2
  pub ahead : IsAhead stage states

-- the channel whose lines come, if there is one, refuses the line
abbrev pub IsRefusedAt : StateStage → SavedStates → List ℕ → Type 0
IsRefusedAt Start states line = Unit {0}
IsRefusedAt Version1 states line = IsRefused states.on_0 line
IsRefusedAt Version2 states line = Unit {0}
IsRefusedAt Channel0 states line = IsRefused states.on_0 line
IsRefusedAt Channel1 states line = IsRefused states.on_1 line
IsRefusedAt Channel2 states line = IsRefused states.on_2 line
