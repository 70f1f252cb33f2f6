use Rattle.nx_code.proofs.lemmas.SilentCombinations.{silent_named}
use Rattle.nx_code.proofs.laws.silent_combinations.Goals as goal

pub returns : goal.returns
returns c = silent_named
