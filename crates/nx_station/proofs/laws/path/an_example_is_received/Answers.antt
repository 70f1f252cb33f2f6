use Rattle.nx_station.proofs.lemmas.reception.PathExamples.{example_cut, example_received, example_sendable}
use Rattle.nx_station.proofs.lemmas.reception.PathExamples.{example_sent, not_received}
use Rattle.nx_station.proofs.laws.path.an_example_is_received.Goals as goal

pub returns-clause-sendable : goal.returns-clause-sendable
returns-clause-sendable c = example_sendable

pub returns-clause-received : goal.returns-clause-received
returns-clause-received c = example_received

pub returns-clause-cut : goal.returns-clause-cut
returns-clause-cut c = example_cut

pub returns-clause-sending : goal.returns-clause-sending
returns-clause-sending c = example_sent

pub returns-clause-outside : goal.returns-clause-outside
returns-clause-outside c = not_received
