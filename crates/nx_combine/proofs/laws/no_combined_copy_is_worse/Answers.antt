use Rattle.nx_combine.proofs.lemmas.Whole.{whole_stays}
use Rattle.nx_combine.proofs.lemmas.Worse.{combination_stays, isnt_worse}
use Rattle.nx_combine.proofs.laws.no_combined_copy_is_worse.Goals as goal

pub returns-clause-own : goal.returns-clause-own
returns-clause-own c = isnt_worse

pub returns-clause-stays : goal.returns-clause-stays
returns-clause-stays c = combination_stays

pub returns-clause-whole : goal.returns-clause-whole
returns-clause-whole c = whole_stays
