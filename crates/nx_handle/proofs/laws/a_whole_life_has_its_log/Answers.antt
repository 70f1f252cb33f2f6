use Rattle.nx_handle.proofs.lemmas.Life.{life-from, life-log}
use Rattle.nx_handle.proofs.laws.a_whole_life_has_its_log.Goals as goal

pub returns : goal.returns
returns g c = record {
  log = life-log g.P.KeptPlace.kind g.met.P.KeptPlace.laws;
  from = life-from g.P.KeptPlace.kind g.met.P.KeptPlace.laws;
}
