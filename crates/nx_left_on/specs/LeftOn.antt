-- The headline of a receiver that is left on: a message that is sent over a chain of watches, one
-- or more times, on one channel, and stands in their log once (this profile).
use Rattle.std.specs.Prelude.{◌≡◌, ℕ, ◌+◌, ◌<◌, Bool, false, List, [], ◌∷◌, ◌++◌, length, map, Contains}
use Rattle.std.specs.Prelude.{IsTrue}
use Rattle.nx_envelope.specs.Identity.{same_identity}
use Rattle.nx_envelope.specs.Message.{MessageView}
use Rattle.nx_envelope.specs.declared.identity.Identity.{Identity}
use Rattle.nx_fec.specs.declared.air_files.channel.Channel.{Channel}
use Rattle.nx_log.specs.Logged.{memory_entries}
use Rattle.nx_memory.specs.Memory.{most_entries, seconds_known}
use Rattle.nx_memory.specs.Selection.{admits}
use Rattle.nx_memory.specs.declared.memories.entry.MemoryEntry.{MemoryEntry}
use Rattle.nx_copies.specs.Events.{Event, Setting, elements_among, first_setting, setting_at}
use Rattle.nx_copies.specs.copies.FoundCopies.{FoundCopy, TaggedCopy}
use Rattle.nx_receiver.specs.air_file_runs.Listen.{events_on}
use Rattle.nx_copies.specs.copies.Printing.{copies_of, entries_after, entries_made, is_remembered}
use Rattle.nx_copies.specs.copies.Shares.{copies_on}
use Rattle.nx_station.specs.reception.Sendings.{IsCut, IsSentAt, Part}
use Rattle.nx_left_on.specs.Chain.{HadEnded, Watch, all_copies, all_put, copies_in, events_in}
use Rattle.nx_left_on.specs.Chain.{start_in}

-- A watch, and elements that were sent on a channel behind those that it heard, where it ended
-- within an emission. All these are cut into gaps of any bits and received emissions.
pub record CutWatch : Type 0 where
  pub watch : Watch
  pub unheard : List Bool
  pub parts : List Part

-- the elements that a watch heard on a channel
abbrev pub elements_in : Channel → Watch → List Bool
elements_in channel watch = elements_among (events_in channel watch)

-- the message is sent in this one of the watches, which heard the second digit of its header, at
-- this element
pub record IsSentIn (channel : Channel) (cuts : List CutWatch) (message : MessageView)
    (cut : CutWatch) (place : ℕ)
    : Type 0 where
  pub among : Contains cuts cut
  pub sent : IsSentAt cut.parts message place
  pub heard : place < length (elements_in channel cut.watch)

-- among the copies that have ended after these events there is one at this place
pub record HasEndedAt (events : List Event) (place : ℕ) : Type 0 where
  pub copies : List FoundCopy
  pub ended : HadEnded events copies
  pub copy : FoundCopy
  pub there : Contains copies copy
  pub here : copy.place ≡ place

-- the moment and the selection in force at this element of the watch on a channel
abbrev pub in_force_in : Channel → CutWatch → ℕ → Setting
in_force_in channel cut place =
    setting_at (first_setting (start_in channel cut.watch)) (events_in channel cut.watch) place

-- Any two sendings, in one watch or in two, lie less than 66 hours apart.
abbrev pub AreClose : Channel → List CutWatch → MessageView → Type 0
AreClose channel cuts message =
    (one other : CutWatch) (at place : ℕ) → IsSentIn channel cuts message one at
    → IsSentIn channel cuts message other place
    → (in_force_in channel one at).moment
    < (in_force_in channel other place).moment + seconds_known

-- A copy that one of the watches judged on a channel, between the watches before and after it, and
-- the copies that its watch judged before and after it.
pub record JudgedCopy (channel : Channel) (watches : List Watch) : Type 0 where
  pub before : List Watch
  pub watch : Watch
  pub after : List Watch
  pub among : watches ≡ before ++ watch ∷ after
  pub earlier : List TaggedCopy
  pub copy : TaggedCopy
  pub later : List TaggedCopy
  pub judged : copies_in channel watch ≡ earlier ++ copy ∷ later

-- all copies that were judged before it
abbrev pub judged_before : {channel : Channel} {watches : List Watch} → JudgedCopy channel watches
    → List TaggedCopy
judged_before {channel} {watches} at = all_copies channel at.before ++ at.earlier

-- the entries that are known where it is judged
abbrev pub known_at : {channel : Channel} {watches : List Watch} → JudgedCopy channel watches
    → List MemoryEntry
known_at {channel} {watches} at = entries_after (at.watch.starts.entries channel) at.earlier

-- the entries that the watches have made of the channel by then
abbrev pub made_before : {channel : Channel} {watches : List Watch} → JudgedCopy channel watches
    → List MemoryEntry
made_before {channel} {watches} at =
    memory_entries (copies_on channel (all_put at.before))
    ++ entries_made (at.watch.starts.entries channel) at.earlier

-- at the first copy of the identity no entry of it is live
abbrev pub IsUnknownOver : Channel → List Watch → Identity → Type 0
IsUnknownOver channel watches identity =
    (first : JudgedCopy channel watches)
    → IsTrue (same_identity first.copy.identity identity)
    → copies_of identity (judged_before first) ≡ []
    → is_remembered (known_at first) first.copy ≡ false

-- At each copy of the identity, fewer than 200 entries have been made behind an entry of it.
abbrev pub AreFewOver : Channel → List Watch → Identity → Type 0
AreFewOver channel watches identity =
    (later : JudgedCopy channel watches) (before behind : List MemoryEntry) (entry : MemoryEntry)
    → IsTrue (same_identity later.copy.identity identity)
    → made_before later ≡ before ++ entry ∷ behind → entry.identity ≡ identity
    → length behind < most_entries

-- What has to be met on a channel of watches, so that a message stands in their log once.
pub record IsHeardInTimeOver (channel : Channel) (watches : List Watch) (message : MessageView)
    : Type 0 where
  -- The elements of each watch on the channel, and those that it didn't hear, are cut into gaps of
  -- any bits and received emissions.
  pub cuts : List CutWatch
  pub whole : watches ≡ map (λ (cut : CutWatch). cut.watch) cuts
  pub cut : (one : CutWatch) → Contains cuts one
      → IsCut (elements_in channel one.watch ++ one.unheard) one.parts
  -- The message is sent in these emissions, once or more often, in whichever watches; and one of
  -- its sendings ends in lines behind which its watch read on before any fault of the disk.
  pub at : CutWatch
  pub place : ℕ
  pub sent : IsSentIn channel cuts message at place
  pub surely : HasEndedAt (events_on channel at.watch.sure) place
  -- It is not numbered 00.
  pub numbered : 0 < message.identity.number
  -- Each copy that is found in a watch on the channel with its identity is one of its sendings
  -- there, and had ended; so all carry the same text.
  pub alone : (one : CutWatch) (copy : FoundCopy) → Contains cuts one
      → Contains (one.watch.found channel) copy → copy.identity ≡ message.identity
      → IsSentAt one.parts message copy.place
      × HasEndedAt (events_in channel one.watch) copy.place
  -- It is selected at each sending.
  pub selected : (one : CutWatch) (at : ℕ) → IsSentIn channel cuts message one at
      → IsTrue (admits (in_force_in channel one at).refused message.identity)
  -- Any two sendings, in one watch or in two, lie less than 66 hours apart.
  pub close : AreClose channel cuts message
  -- At its first copy no entry of its identity is live of all that is known there; where the log
  -- was empty at first, this always holds.
  pub unknown : IsUnknownOver channel watches message.identity
  -- 200 identities suffice: at each of its copies, fewer than 200 entries have been made behind an
  -- entry of it, over all watches.
  pub few : AreFewOver channel watches message.identity
