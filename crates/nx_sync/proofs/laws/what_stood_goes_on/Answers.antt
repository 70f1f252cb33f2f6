use Rattle.nx_sync.proofs.lemmas.states.StateChanges.{stood_before, goes-on}
use Rattle.nx_sync.proofs.laws.what_stood_goes_on.Goals as goal

pub returns : goal.returns
returns c = record { stood = stood_before; goes_on = goes-on }
