use Rattle.std.proofs.Common.{refl, sym, subst}
use Rattle.nx_receiver.specs.Receiver.{Stands}
use Rattle.nx_receiver.proofs.lemmas.receiver.Events.{stands_after, a_moment}
use Rattle.nx_receiver.proofs.receiver.Receiver.set_moment.Goals as goal

pub returns-clause-stands : goal.returns-clause-stands
returns-clause-stands g c start history log stands =
    stands_after _ _ _ _ a_moment refl start history log
    (subst (λ r. Stands g.M.Recall.content start r history log) (sym c.self.view_is) stands)
