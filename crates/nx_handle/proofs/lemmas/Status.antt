-- The statuses of the calls of a receiver.
use Rattle.std.proofs.Common.{◌≡◌, ◌≤◌, ℕ, arith}
use Rattle.std.proofs.lemmas.Grind.{common_steps}
use Rattle.nx_envelope.specs.Moment.{last_moment}
use Rattle.nx_receiver.specs.Moments.{Refuses}
use Rattle.nx_receiver.specs.declared.fault.MomentFault.{MomentFault}
use Rattle.nx_receiver.specs.declared.fault.MomentFault.TheVariants.{Back, Range}
use Rattle.nx_handle.specs.Opening.{moment_status}
use Rattle.nx_handle.specs.private.Opening.{moment_told}
use Rattle.nx_handle.specs.Status.{number_of}

pub moment-done : (last moment : ℕ) → last ≤ moment → moment ≤ last_moment
    → 0 ≡ number_of (moment_status last moment)
moment-done last moment p q = grind (arith, common_steps)

pub moment-refused : (last moment : ℕ) (fault : MomentFault) → Refuses last moment fault
    → moment_told fault ≡ moment_status last moment
moment-refused last moment (Range at) h = let late = h.1 in grind (arith, common_steps)
moment-refused last moment (Back from at) h =
    let fits = h.2 in let back = h.3 in grind (arith, common_steps)

pub moment-not-done : (fault : MomentFault) → number_of (moment_told fault) ≡ 0 → ⊥
moment-not-done (Range at) e = absurd (omega (arith, e))
moment-not-done (Back from at) e = absurd (omega (arith, e))
