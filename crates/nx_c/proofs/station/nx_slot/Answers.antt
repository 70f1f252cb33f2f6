use Rattle.std.proofs.Common.{inr, refl, subst}
use Rattle.nx_station.specs.Slots.{HasNoSlot}
use Rattle.nx_c.proofs.station.nx_slot.Goals as goal

pub returns-in-None : goal.returns-in-None
returns-in-None c = inr (
  refl,
  λ capital. subst (λ station. HasNoSlot station c.args.moment) c.in-Some.ensures.given
      (c.in-None.ensures.none refl),
)
