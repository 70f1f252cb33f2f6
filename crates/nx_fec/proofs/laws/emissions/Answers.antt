use Rattle.nx_fec.proofs.lemmas.emissions.Emission.{IsEmission-emission, IsEmission-only, AreWords-emission}
use Rattle.nx_fec.proofs.laws.emissions.Goals as goal

pub returns-clause-one : goal.returns-clause-one
returns-clause-one c = IsEmission-emission

pub returns-clause-only : goal.returns-clause-only
returns-clause-only c = IsEmission-only

pub returns-clause-sound : goal.returns-clause-sound
returns-clause-sound c = AreWords-emission
