use Rattle.nx_sync.proofs.lemmas.hunting.PhasingStates.{right_stays}
use Rattle.nx_sync.proofs.laws.a_right_lock_stays.Goals as goal

pub returns : goal.returns
returns c earlier i p t locks low high now x = right_stays earlier i low high t x locks p now
