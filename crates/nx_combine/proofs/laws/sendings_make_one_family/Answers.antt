use Rattle.nx_combine.proofs.lemmas.Sendings.{family_of_sendings}
use Rattle.nx_combine.proofs.laws.sendings_make_one_family.Goals as goal

pub returns : goal.returns
returns c = family_of_sendings
