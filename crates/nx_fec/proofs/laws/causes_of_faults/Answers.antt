use Rattle.nx_fec.proofs.lemmas.lines.ReadingLaws.{HasFault-cause}
use Rattle.nx_fec.proofs.laws.causes_of_faults.Goals as goal

pub returns : goal.returns
returns c = HasFault-cause
