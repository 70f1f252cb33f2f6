use Rattle.nx_station.proofs.lemmas.reception.PathPositions.{all_tell}
use Rattle.nx_station.proofs.lemmas.reception.PathUndamaged.{undamaged-cut, undamaged-received}
use Rattle.nx_station.proofs.laws.path.an_undamaged_emission_is_received.Goals as goal

pub returns-clause-passes : goal.returns-clause-passes
returns-clause-passes c = undamaged-received

pub returns-clause-cut : goal.returns-clause-cut
returns-clause-cut c = undamaged-cut

pub returns-clause-received : goal.returns-clause-received
returns-clause-received c emission sendable spelled passes = record {
  sound = sendable.sound;
  told = all_tell emission.messages emission.spellings spelled;
  passes = passes;
}
