use Rattle.nx_fec.proofs.lemmas.lines.LineLaws.{spelling-injective}
use Rattle.nx_fec.proofs.laws.one_spelling.Goals as goal

pub returns : goal.returns
returns c = spelling-injective
