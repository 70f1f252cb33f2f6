-- What a watch remembers of its log when it starts (this profile).
use Rattle.std.specs.Prelude.{ℕ, ◌-◌, Bool, nat_lt, nat_le, List, filter}
use Rattle.std.specs.List.{list_all}
use Rattle.nx_memory.specs.Content.{last_known, passing}
use Rattle.nx_memory.specs.Memory.{seconds_known}
use Rattle.nx_memory.specs.declared.memories.entry.MemoryEntry.{MemoryEntry}

-- the entry lies less than 66 hours after this moment, or before it
abbrev pub is_near : ℕ → MemoryEntry → Bool
is_near moment entry = nat_lt (entry.moment - moment) seconds_known

-- none with an earlier moment stands behind the entry
abbrev pub is_in_order : MemoryEntry → List MemoryEntry → Bool
is_in_order entry behind = list_all (λ other. nat_le entry.moment other.moment) behind

-- What is remembered, at a moment, of the entries that a log remembers on a channel. First, those
-- that lie 66 hours or more after the moment are left out. Of the others, each is left out behind
-- which one with an earlier moment stands. Of these, each is left out behind which one of its
-- identity stands less than 66 hours later. So the clock that runs far ahead, or was set back,
-- makes nothing known.
abbrev pub remembered_at : ℕ → List MemoryEntry → List MemoryEntry
remembered_at moment entries =
    last_known (passing is_in_order (filter (is_near moment) entries))
