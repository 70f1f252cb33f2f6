-- The slots of stations (ITU-R M.540: the stations of an area send by turns; that the turns are ten
-- minutes of each four hours, counted from 1970-01-01 00:00:00 UTC, is this profile's).
use Rattle.std.specs.Prelude.{◌≡◌, ℕ, ◌+◌, ◌-◌, ◌*◌, ◌<◌, ◌≤◌}
use Rattle.nx_code.specs.Reading.{capital_a}
use Rattle.nx_envelope.specs.Moment.{last_moment}
use Rattle.nx_station.specs.Sendable.{HasSlots}

-- how many seconds a round has, and a slot
abbrev pub round_seconds : ℕ
round_seconds = 14400

abbrev pub slot_seconds : ℕ
slot_seconds = 600

-- A slot of the station begins at this moment. In each round of 14,400 seconds each of the stations
-- A to X has one. It begins 600 seconds after that of the station before it; that of A begins with
-- the round.
pub record IsSlot (station moment : ℕ) : Type 0 where
  pub has_slots : HasSlots station
  pub round : ℕ
  pub begins : moment ≡ round_seconds * round + slot_seconds * (station - capital_a)

-- the next slot of the station, from a moment on: the least that isn't before it, and no later than
-- the last moment
pub record IsNextSlot (station moment slot : ℕ) : Type 0 where
  pub is_slot : IsSlot station slot
  pub not_before : moment ≤ slot
  pub least : (other : ℕ) → IsSlot station other → moment ≤ other → slot ≤ other
  pub in_range : slot ≤ last_moment

-- the station has no slot from that moment on, up to the last moment
abbrev pub HasNoSlot : ℕ → ℕ → Type 0
HasNoSlot station moment = (slot : ℕ) → IsSlot station slot → moment ≤ slot → last_moment < slot
