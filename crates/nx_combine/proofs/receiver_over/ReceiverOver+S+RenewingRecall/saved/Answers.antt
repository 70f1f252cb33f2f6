use Rattle.nx_combine.specs.CombinedReceiver.{its_entries}
use Rattle.nx_combine.proofs.lemmas.Leaving.{held_left}
use Rattle.nx_combine.proofs.receiver_over.ReceiverOver+S+RenewingRecall.saved.Goals as goal

pub returns-clause-leaves : goal.returns-clause-leaves
returns-clause-leaves g c =
    rw (← c.self.view_is) (λ places start history log stands.
    held_left (g.S.HoldsFamilies.most places) its_entries start history _ log c.of_renewing.result
    stands c.of_renewing.ensures.entries c.of_renewing.ensures.refused)
