-- What only private contracts and proofs cite, beside Opening (this profile).
use Rattle.std.specs.Prelude.{◌≡◌, ℕ, true, List, [], map, Some, slice_get}
use Rattle.nx_copies.specs.Events.{Start}
use Rattle.nx_receiver.specs.declared.fault.MomentFault.{MomentFault}
use Rattle.nx_receiver.specs.declared.fault.MomentFault.TheVariants as moment
use Rattle.nx_handle.specs.PlaceKinds.{PlaceKind}
use Rattle.nx_handle.specs.declared.status.Status.{Status}
use Rattle.nx_handle.specs.declared.status.Status.TheVariants as status

-- the status that the fault of a moment tells
abbrev pub moment_told : MomentFault → Status
moment_told (moment.Range given) = status.MomentRange
moment_told (moment.Back last given) = status.MomentBack

-- Each place has a receiver that starts so, has heard nothing, and holds as many families as there
-- is room for; it hears.
pub record BeginsIn {P : Type 0} (kind : PlaceKind P) (place : P) (start : Start) : Type 0 where
  pub stands : kind.stands (kind.families place) start place [] []
  pub hears : kind.is_hearing place ≡ true

abbrev pub HaveBegun : {P : Type 0} → PlaceKind P → List P → Start → Type 0
HaveBegun {P} kind places start =
    (k : ℕ) (place : P) → slice_get places k ≡ Some place → BeginsIn kind place start

-- the places are the same ones, once they are closed
abbrev pub ShutSame : {P : Type 0} → PlaceKind P → List P → List P → Type 0
ShutSame kind old new = map kind.shut new ≡ map kind.shut old
