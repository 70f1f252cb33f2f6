use Rattle.nx_receiver.proofs.lemmas.chain.Left.{held-left}
use Rattle.nx_receiver.proofs.receiver.Receiver.saved.Goals as goal

pub returns-clause-leaves : goal.returns-clause-leaves
returns-clause-leaves g c =
    rw (← c.self.view_is) (λ start history log stands.
    held-left g.M.Recall.content start history _ log c.of.result stands c.of.ensures.entries
    c.of.ensures.refused)
