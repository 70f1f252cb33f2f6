use Rattle.nx_station.proofs.lemmas.broadcasts.Broadcast.{broadcast-exists, broadcast-one}
use Rattle.nx_station.proofs.laws.messages_have_one_broadcast.Goals as goal

pub returns-clause-some : goal.returns-clause-some
returns-clause-some c = broadcast-exists

pub returns-clause-only : goal.returns-clause-only
returns-clause-only c = broadcast-one
