-- What is remembered of a log while it is read.
use Rattle.std.specs.Prelude.{◌≡◌, ℕ, List, [], ◌∷◌, ◌++◌, Option, Some, None, if◌then◌else◌}
use Rattle.nx_code.specs.Lists.{last_of}
use Rattle.nx_fec.specs.declared.air_files.channel.Channel.{Channel}
use Rattle.nx_fec.specs.declared.air_files.channel.Channel.TheVariants.{Zero, One, Two}
use Rattle.nx_log.specs.Logged.{IsLoggedAs, is_memorable, memory_entries}
use Rattle.nx_memory.specs.Memory.{most_entries}
use Rattle.nx_memory.specs.declared.memories.entry.MemoryEntry.{MemoryEntry}
use Rattle.nx_copies.specs.copies.Printing.{entry_of}
use Rattle.nx_copies.specs.copies.Shares.{MarkedCopy, copies_on}
use Rattle.nx_watch.specs.declared.kept_log.log_memory.LogMemory.{LogMemory}

-- what is remembered of a channel
abbrev pub memory_on : LogMemory → Channel → List MemoryEntry
memory_on memory Zero = memory.on_0.entries.items
memory_on memory One = memory.on_1.entries.items
memory_on memory Two = memory.on_2.entries.items

-- on each channel the last 200 of some entries are remembered, and then those of these, and of what
-- the copies keep behind them
abbrev pub RemembersBehind : LogMemory → LogMemory → List MarkedCopy → Type 0
RemembersBehind old new copies =
    (channel : Channel) (all : List MemoryEntry) → memory_on old channel ≡ last_of most_entries all
    → memory_on new channel
    ≡ last_of most_entries (all ++ memory_entries (copies_on channel copies))

-- the same of the copy whose entry has these bytes
abbrev pub RemembersMore : LogMemory → List ℕ → LogMemory → Type 0
RemembersMore old bytes new =
    (one : MarkedCopy) → IsLoggedAs one bytes → RemembersBehind old new (one ∷ [])

-- the channel of a copy, and the entry that a memory makes of it, if it makes one
abbrev pub entry_found : MarkedCopy → Option (Channel × MemoryEntry)
entry_found one = if is_memorable one.copy then Some (one.channel, entry_of one.copy) else None
