-- A worked start of a run that goes on (this profile). The message EA01 was printed on channel 1
-- just 66 hours before it is heard there again, in the worked air file of two channels.
use Rattle.std.specs.Prelude.{◌-◌, [], ◌∷◌}
use Rattle.nx_memory.specs.Memory.{seconds_known}
use Rattle.nx_memory.specs.Saved.{SavedStates, nothing_saved}
use Rattle.nx_memory.specs.declared.memories.entry.MemoryEntry.{MemoryEntry}
use Rattle.nx_copies.specs.Events.{none_refused}
use Rattle.nx_promises.specs.examples.Repeats.{first_copy}

-- the entry of that, 66 hours older than the copy that is heard
abbrev pub old_entry : MemoryEntry
old_entry =
    record { identity = first_copy.identity; moment = first_copy.moment - seconds_known }

-- it is what is saved, of channel 1
abbrev pub saved_long_ago : SavedStates
saved_long_ago = record {
  on_0 = nothing_saved;
  on_1 = record { entries = old_entry ∷ []; refused = none_refused };
  on_2 = nothing_saved;
}
