use Rattle.nx_fec.proofs.lemmas.lines.LineLaws.{Splits-unique}
use Rattle.nx_fec.proofs.laws.one_reading.Goals as goal

pub returns : goal.returns
returns c = Splits-unique
