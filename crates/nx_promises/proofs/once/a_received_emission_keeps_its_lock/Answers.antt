use Rattle.nx_promises.proofs.lemmas.together.Visible.{received-seen, seen-holds}
use Rattle.nx_promises.proofs.once.a_received_emission_keeps_its_lock.Goals as goal

pub returns : goal.returns
returns c earlier emission is = seen-holds earlier emission (received-seen emission is)
