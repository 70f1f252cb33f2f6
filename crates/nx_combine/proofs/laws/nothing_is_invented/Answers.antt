use Rattle.nx_combine.proofs.lemmas.Invented.{nothing_invented}
use Rattle.nx_combine.proofs.laws.nothing_is_invented.Goals as goal

pub returns : goal.returns
returns c = nothing_invented
