use Rattle.nx_sync.proofs.lemmas.hunting.PhasingStates.{between_wrong, between_released}
use Rattle.nx_sync.proofs.laws.a_lock_between_limits_is_lost.Goals as goal

pub returns : goal.returns
returns c = record { wrong = between_wrong; released = between_released }
