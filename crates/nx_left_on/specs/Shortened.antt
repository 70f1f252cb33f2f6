-- A log that was shortened, and a watch that starts over it (this profile).
use Rattle.std.specs.Prelude.{◌≡◌, ◌⊎◌, ℕ, ◌+◌, ◌≤◌, false, List, ◌++◌, take, Option, None, Some}
use Rattle.std.specs.List.{All}
use Rattle.std.specs.List.Sorted.{IsNonDecreasingBy}
use Rattle.nx_envelope.specs.Moment.{last_moment}
use Rattle.nx_fec.specs.air_files.AirFile.{Line}
use Rattle.nx_fec.specs.declared.air_files.channel.Channel.{Channel}
use Rattle.nx_log.specs.Logged.{memory_entries, remembered_on}
use Rattle.nx_log.specs.declared.queries.query.Query.{Query}
use Rattle.nx_memory.specs.Memory.{seconds_known}
use Rattle.nx_memory.specs.declared.memories.entry.MemoryEntry.{MemoryEntry}
use Rattle.nx_copies.specs.copies.Shares.{MarkedCopy, copies_on}
use Rattle.nx_watch.specs.Acting.{given, moments_behind}
use Rattle.nx_watch.specs.declared.lines.line_effects.StartMoments.{StartMoments}

-- the entry is 66 hours old at this moment, or older
abbrev pub IsOldAt : ℕ → MemoryEntry → Type 0
IsOldAt moment entry = entry.moment + seconds_known ≤ moment

-- What the whole log remembers of each channel is entries that are old at this moment, and then
-- what the shorter log remembers.
pub record LeavesOutOld (moment : ℕ) (whole shorter : List MarkedCopy) : Type 0 where
  pub left_out : Channel → List MemoryEntry
  pub split : (channel : Channel)
      → remembered_on channel whole ≡ left_out channel ++ remembered_on channel shorter
  pub old : (channel : Channel) → All (IsOldAt moment) (left_out channel)

-- A watch that starts so hears nothing before this moment. The newest one that it remembers isn't
-- before it. Or the first moment in range that comes into force isn't: the first that its lines
-- say, or the one that it sets where elements come first, which is in range.
abbrev pub HearsFrom : ℕ → StartMoments → List (Option Line) → Type 0
HearsFrom moment first lines =
    (moment ≤ first.newest)
    ⊎ ((given first ≤ last_moment)
    × All (λ n. moment ≤ n) (take 1 (moments_behind first lines)))

-- the query asks for all entries since this moment, or for all good ones
pub record AsksSince (moment : ℕ) (query : Query) : Type 0 where
  pub since : query.since ≡ Some moment
  pub stations : query.stations ≡ None
  pub subjects : query.subjects ≡ None
  pub channel : query.channel ≡ None
  pub until : query.until ≡ None
  pub not_last : query.last ≡ false

-- on each channel the entries that count for a memory stand in the order of their moments
abbrev pub AreInOrder : List MarkedCopy → Type 0
AreInOrder entries =
    (channel : Channel)
    → IsNonDecreasingBy (λ entry. entry.moment) (memory_entries (copies_on channel entries))
