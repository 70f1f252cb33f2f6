use Rattle.nx_left_on.proofs.lemmas.shortened.Ordered.{chain-order, empty-order}
use Rattle.nx_left_on.proofs.shortening.a_chain_of_watches_keeps_its_log_in_order.Goals as goal

pub returns : goal.returns
returns c = record { order = chain-order; empty = empty-order }
