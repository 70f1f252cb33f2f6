-- Watches one after another that take sendings together, and what they put of a message (this
-- profile).
use Rattle.std.specs.Prelude.{◌≡◌, ◌⊎◌, ℕ, ◌+◌, ◌≤◌, false, List, [], ◌∷◌, ◌++◌, length}
use Rattle.std.specs.List.{All}
use Rattle.nx_code.specs.Lists.{Begins}
use Rattle.nx_combine.specs.CopyPositions.{ended_placed, placed_to_end}
use Rattle.nx_envelope.specs.Identity.{same_identity}
use Rattle.nx_envelope.specs.Message.{MessageView}
use Rattle.nx_fec.specs.declared.air_files.channel.Channel.{Channel}
use Rattle.nx_log.specs.Logged.{memory_entries}
use Rattle.nx_memory.specs.Memory.{most_entries, seconds_known}
use Rattle.nx_memory.specs.declared.memories.entry.MemoryEntry.{MemoryEntry}
use Rattle.nx_copies.specs.copies.FoundCopies.{TaggedCopy}
use Rattle.nx_copies.specs.copies.Printing.{copies_of}
use Rattle.nx_copies.specs.copies.Shares.{MarkedCopy, copies_on, start_on}
use Rattle.nx_promises.specs.laws.Together.{IsHeardTogether, IsPrintedWholeOnce, IsThroughWith}
use Rattle.nx_promises.specs.laws.Together.{behind_digit}
use Rattle.nx_receiver.specs.air_file_runs.Listen.{events_on}
use Rattle.nx_station.specs.reception.Sendings.{Part}
use Rattle.nx_left_on.specs.Chain.{ClocksAreNear, Watch, all_put, answered, events_in}

-- The copy comes 66 hours behind the entry, or later; or so many entries stand behind that one that
-- it is live no more.
abbrev pub IsOver : MemoryEntry → ℕ → TaggedCopy → Type 0
IsOver entry behind copy =
    (entry.moment + seconds_known ≤ copy.moment) ⊎ (most_entries ≤ behind)

-- The entry stands among those that a log has of a channel. Those behind it bear other identities,
-- and none of them has an earlier moment.
pub record StandsLast (channel : Channel) (log : List MarkedCopy) (entry : MemoryEntry) : Type 0
  where
    pub front : List MemoryEntry
    pub behind : List MemoryEntry
    pub whole : memory_entries (copies_on channel log) ≡ front ++ entry ∷ behind
    pub others : All (λ other. same_identity entry.identity other.identity ≡ false) behind
    pub late : All (λ other. entry.moment ≤ other.moment) behind

-- Of what a watch put behind these entries an entry of the message stands last of its identity.
-- None of the watches behind it puts a copy of the identity again, before the entry is 66 hours old
-- or 200 entries have been made behind it. For this no MOMENT of them may lie 66 hours or more
-- before the newest entry.
pub record StandsLastOf (channel : Channel) (log : List MarkedCopy) (after : List Watch)
    (message : MessageView)
    : Type 0 where
  pub entry : MemoryEntry
  pub named : entry.identity ≡ message.identity
  pub last : StandsLast channel log entry
  pub not_again : ClocksAreNear channel log after → (earlier later : List TaggedCopy)
      (copy : TaggedCopy) → copies_on channel (all_put after) ≡ earlier ++ copy ∷ later
      → copy.identity ≡ message.identity → copies_of message.identity earlier ≡ []
      → IsOver entry (length last.behind + length (memory_entries earlier)) copy

-- A message that is heard together within a watch stands whole among what it put behind these
-- entries. Where the watch answered, it is whole once among all of that, and its entry stands last
-- in the log. However the watch ended, the first is said of a beginning of what it put, where the
-- message was heard together in the lines behind which it read on.
pub record IsKeptWhole (log : List MarkedCopy) (watch : Watch) (after : List Watch)
    (channel : Channel) (parts : List Part) (message : MessageView) (numbers : List ℕ)
    : Type 0 where
  pub answered_whole : watch.ending ≡ answered
      → (heard : IsHeardTogether placed_to_end (start_on watch.starts channel)
      (events_in channel watch) parts message numbers)
      → (came : IsThroughWith (behind_digit numbers) message.identity (heard.first ∷ heard.later))
      → IsPrintedWholeOnce message (start_on watch.starts channel)
      (heard.before ++ (came.up_to ++ came.one ∷ [])) came.rest (copies_on channel watch.put)
      × StandsLastOf channel (log ++ watch.put) after message
  pub surely_whole : (heard : IsHeardTogether ended_placed (start_on watch.starts channel)
      (events_on channel watch.sure) parts message numbers)
      → (came : IsThroughWith (behind_digit numbers) message.identity (heard.first ∷ heard.later))
      → (surely : List TaggedCopy) × Begins surely (copies_on channel watch.put)
      × IsPrintedWholeOnce message (start_on watch.starts channel)
      (heard.before ++ (came.up_to ++ came.one ∷ [])) came.rest surely
