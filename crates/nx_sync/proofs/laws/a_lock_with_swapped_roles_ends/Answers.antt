use Rattle.nx_sync.proofs.lemmas.hunting.PhasingStates.{swapped_second, swapped_released}
use Rattle.nx_sync.proofs.laws.a_lock_with_swapped_roles_ends.Goals as goal

pub returns : goal.returns
returns c = record { second = swapped_second; released = swapped_released }
