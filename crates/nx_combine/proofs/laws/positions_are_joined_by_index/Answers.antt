use Rattle.nx_combine.proofs.lemmas.Joined.{length-joined, slice_get-joined}
use Rattle.nx_combine.proofs.laws.positions_are_joined_by_index.Goals as goal

pub returns-clause-long : goal.returns-clause-long
returns-clause-long c = length-joined

pub returns-clause-each : goal.returns-clause-each
returns-clause-each c = slice_get-joined
