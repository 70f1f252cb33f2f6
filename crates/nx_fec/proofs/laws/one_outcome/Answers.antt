use Rattle.nx_fec.proofs.lemmas.lines.LineLaws.{HasFault-unique, IsAirFile-good, IsBitFile-unique, Splits-good}
use Rattle.nx_fec.proofs.laws.one_outcome.Goals as goal

pub returns-clause-fault : goal.returns-clause-fault
returns-clause-fault c = HasFault-unique

pub returns-clause-lines : goal.returns-clause-lines
returns-clause-lines c = IsAirFile-good

pub returns-clause-elements : goal.returns-clause-elements
returns-clause-elements c = IsBitFile-unique

pub returns-clause-earliest : goal.returns-clause-earliest
returns-clause-earliest c = Splits-good
