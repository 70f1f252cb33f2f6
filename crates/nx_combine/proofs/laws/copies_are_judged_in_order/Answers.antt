use Rattle.nx_combine.proofs.lemmas.Once.{in_order_holding}
use Rattle.nx_combine.proofs.laws.copies_are_judged_in_order.Goals as goal

pub returns : goal.returns
returns c = in_order_holding
