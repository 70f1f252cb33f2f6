-- Which moments are refused (this profile).
use Rattle.std.specs.Prelude.{◌≡◌, ℕ, ◌<◌, ◌≤◌}
use Rattle.nx_envelope.specs.Moment.{last_moment}
use Rattle.nx_receiver.specs.declared.fault.MomentFault.{MomentFault}
use Rattle.nx_receiver.specs.declared.fault.MomentFault.TheVariants.{Back, Range}

-- why a moment is refused: it is past the last one; or else it is before the one in force
abbrev pub Refuses : ℕ → ℕ → MomentFault → Type 0
Refuses last given (Range at) = (at ≡ given) × (last_moment < given)
Refuses last given (Back from at) =
    (from ≡ last) × (at ≡ given) × (given ≤ last_moment) × (given < last)
