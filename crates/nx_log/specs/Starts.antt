-- What stands where an entry is to begin (this profile).
use Rattle.std.specs.Prelude.{ℕ, ◌+◌, ◌<◌, ◌≤◌, List, length, take}
use Rattle.nx_log.specs.declared.entries.start.EntryStart.{EntryStart}
use Rattle.nx_log.specs.declared.entries.start.EntryStart.TheVariants.{Whole, Unfinished, Broken}
use Rattle.nx_log.specs.Entries.{IsWholeEntry, IsUnfinishedEntry}

-- The first n bytes are a logged entry; all of them are the beginning of one; or they begin one up
-- to the byte at n, with which they don't, whatever comes.
abbrev pub StartsAs : List ℕ → EntryStart → Type 0
StartsAs bytes (Whole n) = (n ≤ length bytes) × IsWholeEntry (take n bytes)
StartsAs bytes Unfinished = IsUnfinishedEntry bytes
StartsAs bytes (Broken n) = (n < length bytes) × IsUnfinishedEntry (take n bytes)
    × (IsWholeEntry (take (n + 1) bytes) → ⊥) × (IsUnfinishedEntry (take (n + 1) bytes) → ⊥)
