-- A kept log read as such: the entries that its bytes stand for, and where each stands (this
-- profile).
use Rattle.std.specs.Prelude.{◌≡◌, ◌≢◌, ℕ, ◌+◌, List, [], ◌∷◌, ◌++◌, length, take, Some}
use Rattle.nx_kept.specs.Kept.{CanBeKeptLog, IsDamagedBehind, IsTail, closed_gate, line_behind}
use Rattle.nx_log.specs.Entries.{IsWholeEntry}
use Rattle.nx_log.specs.Logged.{IsLoggedAs}
use Rattle.nx_log.specs.Places.{PlacedCopy}
use Rattle.nx_log.specs.declared.writing.places.Places.{Places}

-- the most bytes of a logged entry
abbrev pub longest_entry : ℕ
longest_entry = 4146

-- the places of an entry of these bytes whose gate stands behind so many: its own, and that of the
-- gate behind it
abbrev pub places_at : ℕ → List ℕ → Places
places_at place entry = record { place = place; next = place + 1 + length entry }

-- The bytes are these entries, each behind an open gate. So many bytes stand before the first gate.
abbrev pub ArePlacedFrom : ℕ → List PlacedCopy → List ℕ → Type 0
ArePlacedFrom place [] bytes = bytes ≡ []
ArePlacedFrom place (first ∷ entries) bytes =
    (gate : ℕ) × (entry : List ℕ) × (rest : List ℕ) × (gate ≢ closed_gate)
    × IsLoggedAs first.one entry × (first.places ≡ Some (places_at place entry))
    × (bytes ≡ gate ∷ (entry ++ rest))
    × ArePlacedFrom (place + 1 + length entry) entries rest

-- The bytes stand for these entries: they are these, each behind an open gate, and then a tail. So
-- many bytes stand before them.
pub record StandForPlaced (from : ℕ) (bytes : List ℕ) (entries : List PlacedCopy) : Type 0 where
  pub front : List ℕ
  pub tail : List ℕ
  pub split : bytes ≡ front ++ tail
  pub placed : ArePlacedFrom from entries front
  pub end : IsTail longest_entry tail

-- no whole entry stands behind an open gate at the beginning of these bytes
abbrev pub NoEntryStands : List ℕ → Type 0
NoEntryStands bytes = (gate : ℕ) (entry more : List ℕ) → bytes ≡ gate ∷ (entry ++ more)
    → IsWholeEntry entry → gate ≡ closed_gate

-- The bytes can be those of a kept log, to which more may come, and these are the whole entries
-- that stand in them behind open gates.
pub record HoldKept (from : ℕ) (bytes : List ℕ) (entries : List PlacedCopy) : Type 0 where
  pub front : List ℕ
  pub rest : List ℕ
  pub split : bytes ≡ front ++ rest
  pub placed : ArePlacedFrom from entries front
  pub no_more : NoEntryStands rest
  pub good : CanBeKeptLog IsWholeEntry longest_entry bytes

-- The bytes are damaged behind these entries, at this line: that of the first byte with which no
-- bytes to come make them good; where they end too early, the line whose line feed is missing.
pub record StopKept (from : ℕ) (bytes : List ℕ) (entries : List PlacedCopy) (line : ℕ)
    : Type 0 where
  pub place : ℕ
  pub damaged : IsDamagedBehind IsWholeEntry longest_entry place bytes
  pub before : HoldKept from (take place bytes) entries
  pub is_line : line ≡ line_behind (take place bytes)
