use Rattle.nx_sync.proofs.lemmas.hunting.PhasingStates.{hunt_locks}
use Rattle.nx_sync.proofs.laws.a_hunt_locks_in_phasing.Goals as goal

pub returns : goal.returns
returns c = hunt_locks
