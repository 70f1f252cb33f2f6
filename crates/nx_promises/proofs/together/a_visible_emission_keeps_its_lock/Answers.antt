use Rattle.nx_promises.proofs.lemmas.together.Visible.{received-seen, seen-holds}
use Rattle.nx_promises.proofs.together.a_visible_emission_keeps_its_lock.Goals as goal

pub returns : goal.returns
returns c = record { holds = seen-holds; received = received-seen }
