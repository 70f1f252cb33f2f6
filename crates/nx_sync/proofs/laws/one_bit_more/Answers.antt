use Rattle.nx_sync.proofs.lemmas.states.StateChanges.{one_more}
use Rattle.nx_sync.proofs.laws.one_bit_more.Goals as goal

pub returns : goal.returns
returns c = one_more
