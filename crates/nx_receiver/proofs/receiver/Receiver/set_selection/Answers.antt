use Rattle.std.proofs.Common.{refl, sym, subst}
use Rattle.nx_receiver.specs.Receiver.{Stands}
use Rattle.nx_receiver.proofs.lemmas.receiver.Events.{stands_after, a_command}
use Rattle.nx_receiver.proofs.receiver.Receiver.set_selection.Goals as goal

pub returns : goal.returns
returns g c start history log stands =
    stands_after _ _ _ _ a_command refl start history log
    (subst (λ r. Stands g.M.Recall.content start r history log) (sym c.self.view_is) stands)
