-- The memory of identities (this profile: the last 200 entered, each for 66 hours).
use Rattle.std.specs.Prelude.{ℕ, ◌-◌, Bool, ◌&&◌, nat_lt, List, [], ◌∷◌, ◌++◌, length, slice_get, Option, unwrap_or, ◌+◌, ◌<◌, ◌≡◌}
use Rattle.std.specs.Option.{option_map}
use Rattle.std.specs.List.{list_any}
use Rattle.nx_code.specs.Lists.{last_of}
use Rattle.nx_envelope.specs.declared.identity.Identity.{Identity}
use Rattle.nx_envelope.specs.Identity.{same_identity}
use Rattle.nx_memory.specs.declared.memories.entry.MemoryEntry.{MemoryEntry}

-- how many entries a memory keeps
abbrev pub most_entries : ℕ
most_entries = 200

-- for how many seconds an entry makes its identity known: 66 hours
abbrev pub seconds_known : ℕ
seconds_known = 237600

-- what a memory holds, oldest first, after one more entry: the last 200 of its entries and the new
-- one
abbrev pub content_after : List MemoryEntry → Identity → ℕ → List MemoryEntry
content_after content identity moment =
    last_of most_entries (content ++ record { identity = identity; moment = moment } ∷ [])

-- the moment of the entry made last
abbrev pub newest_of : List MemoryEntry → Option ℕ
newest_of content = option_map (λ entry. entry.moment) (slice_get content (length content - 1))

-- the same, and 0 where there is none: no moment is before that
abbrev pub newest_moment : List MemoryEntry → ℕ
newest_moment content = unwrap_or (newest_of content) 0

-- the entry bears the identity, and is less than 66 hours old at the moment
abbrev pub is_recent : Identity → ℕ → MemoryEntry → Bool
is_recent identity moment entry =
    same_identity entry.identity identity && nat_lt (moment - entry.moment) seconds_known

-- the identity is known at the moment: one of the entries bears it and is less than 66 hours old
abbrev pub is_known : Identity → ℕ → List MemoryEntry → Bool
is_known identity moment content = list_any (is_recent identity moment) content

-- the entry at a place, from 0, the oldest: its identity and its moment
abbrev pub entry_at : List MemoryEntry → ℕ → Option (Identity × ℕ)
entry_at content place =
    option_map (λ entry. (entry.identity, entry.moment)) (slice_get content place)

-- an entry of the identity is live at the moment: it is less than 66 hours old, and fewer than 200
-- entries came after it
pub record IsLive (identity : Identity) (moment : ℕ) (entries : List MemoryEntry) : Type 0 where
  pub before : List MemoryEntry
  pub entry : MemoryEntry
  pub after : List MemoryEntry
  pub made : entries ≡ before ++ entry ∷ after
  pub same : entry.identity ≡ identity
  pub recent : moment < entry.moment + seconds_known
  pub few_after : length after < most_entries
