use Rattle.nx_receiver.proofs.lemmas.chain.Left.{held-left, left-of_ended}
use Rattle.nx_promises.proofs.chain.a_receiver_holds_what_it_leaves.Goals as goal

pub returns : goal.returns
returns g c = record { ended = left-of_ended; held = held-left g.M.Recall.content }
