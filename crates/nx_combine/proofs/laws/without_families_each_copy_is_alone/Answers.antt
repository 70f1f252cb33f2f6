use Rattle.nx_combine.proofs.lemmas.Alone.{itself_alone, placed_alone}
use Rattle.nx_combine.proofs.laws.without_families_each_copy_is_alone.Goals as goal

pub returns-clause-itself : goal.returns-clause-itself
returns-clause-itself c = itself_alone

pub returns-clause-printed : goal.returns-clause-printed
returns-clause-printed c = placed_alone
