use Rattle.nx_combine.proofs.lemmas.Printed.{last_whole, nothing_behind}
use Rattle.nx_combine.proofs.laws.whole_copies_are_printed_once.Goals as goal

pub returns-clause-printed : goal.returns-clause-printed
returns-clause-printed c = last_whole

pub returns-clause-nothing_behind : goal.returns-clause-nothing_behind
returns-clause-nothing_behind c = nothing_behind
