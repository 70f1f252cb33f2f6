use Rattle.std.proofs.Common.{[], ◌∷◌, ◌∙◌}
use Rattle.nx_kept.specs.Kept.{closed_gate}
use Rattle.nx_kept.proofs.laws.what_is_kept_is_left.Goals as goal

pub returns : goal.returns
returns g c = λ start left records keeps may_leave. record {
  front = keeps.front;
  tail = closed_gate ∷ [];
  kept = keeps.kept;
  end = tt;
  split = keeps.at_rest.durable left may_leave ∙ keeps.at_rest.file;
}
