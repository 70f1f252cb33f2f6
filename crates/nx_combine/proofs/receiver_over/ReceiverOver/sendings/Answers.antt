use Rattle.nx_combine.specs.CombinedReceiver.{receiver_in}
use Rattle.nx_combine.proofs.lemmas.Counted.{counted_last}
use Rattle.nx_combine.proofs.receiver_over.ReceiverOver.sendings.Goals as goal

pub returns-clause-counted : goal.returns-clause-counted
returns-clause-counted g c =
    rw (← c.self.view_is) (λ places start history log copy stands.
    counted_last (g.S.HoldsFamilies.most places) g.M.Recall.content start
    (receiver_in g.S.HoldsFamilies.held _ places) history log copy stands)
