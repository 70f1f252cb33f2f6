use Rattle.std.proofs.Common.{◌∙◌, ap}
use Rattle.nx_c.specs.Families.{combines}
use Rattle.nx_c.proofs.receiver.three_places.add_combining.Goals as goal

pub returns : goal.returns
returns c = (
  c.closed.result,
  c.in_ok-push.ensures.items,
  ap combines.is_closed c.closed.ensures,
  ap combines.families c.closed.ensures ∙ c.in_ok-of.ensures,
)
