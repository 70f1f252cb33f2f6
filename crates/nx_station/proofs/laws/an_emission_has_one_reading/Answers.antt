use Rattle.nx_station.proofs.lemmas.strict_reading.EmissionReading.{emission-one}
use Rattle.nx_station.proofs.lemmas.strict_reading.EmissionFaults.{emission-no_fault, one_fault}
use Rattle.nx_station.proofs.laws.an_emission_has_one_reading.Goals as goal

pub returns-clause-list : goal.returns-clause-list
returns-clause-list c bits one other h k = emission-one one other bits h k

pub returns-clause-messages : goal.returns-clause-messages
returns-clause-messages c bits messages why h k = emission-no_fault bits messages why h k

pub returns-clause-fault : goal.returns-clause-fault
returns-clause-fault c bits one other h k = one_fault bits one other h k
