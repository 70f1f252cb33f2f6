use Rattle.nx_sync.proofs.lemmas.states.StateChanges.{standing_after}
use Rattle.nx_sync.proofs.lemmas.states.UniqueStates.{locks-unique, now-unique}
use Rattle.nx_sync.proofs.laws.what_stands_is_unique.Goals as goal

pub returns : goal.returns
returns c = record { stands = standing_after; locks = locks-unique; now = now-unique }
