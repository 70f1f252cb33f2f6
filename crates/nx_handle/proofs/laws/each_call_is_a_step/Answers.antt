use Rattle.nx_handle.proofs.lemmas.Life.{step-hears, step-moment, step-selects}
use Rattle.nx_handle.proofs.laws.each_call_is_a_step.Goals as goal

pub returns : goal.returns
returns g c = record {
  hears = step-hears g.P.KeptPlace.kind g.met.P.KeptPlace.laws;
  moment = step-moment g.P.KeptPlace.kind;
  selects = step-selects g.P.KeptPlace.kind;
}
