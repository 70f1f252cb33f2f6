-- A moment that is set channel by channel (this profile).
use Rattle.std.specs.Prelude.{◌≡◌, ℕ, ◌<◌, ◌≤◌, List, length, Some, slice_get}
use Rattle.nx_receiver.specs.Moments.{Refuses}
use Rattle.nx_receiver.specs.declared.fault.MomentFault.{MomentFault}
use Rattle.nx_handle.specs.PlaceKinds.{HasTaken, PlaceKind}

-- the first `count` places took it, and the others are as they were
pub record MomentsTaken {P : Type 0} (kind : PlaceKind P) (moment : ℕ) (old new : List P)
    (count : ℕ) : Type 0 where
  pub taken : (k : ℕ) → k < count → (place : P) → slice_get old k ≡ Some place
      → (after : P) × (slice_get new k ≡ Some after) × HasTaken kind moment place after
  pub others : (k : ℕ) → count ≤ k → slice_get new k ≡ slice_get old k
  pub channels : length new ≡ length old

-- so many took it, and the next one refuses it
pub record RefusesNext {P : Type 0} (kind : PlaceKind P) (moment : ℕ) (old new : List P)
    (fault : MomentFault) : Type 0 where
  pub count : ℕ
  pub taken : MomentsTaken kind moment old new count
  pub place : P
  pub next : slice_get old count ≡ Some place
  pub refuses : Refuses (kind.start_of place).moment moment fault
