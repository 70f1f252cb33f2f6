use Rattle.nx_sync.proofs.lemmas.hunting.Phasing as proof
use Rattle.nx_sync.proofs.laws.phasing_locks.Goals as goal

pub returns : goal.returns
returns c = proof.phasing_locks
