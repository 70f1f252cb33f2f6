use Rattle.std.proofs.Common.{Some, subst, sym}
use Rattle.nx_combine.specs.CombinedReceiver.{AwaitsAfterAll}
use Rattle.nx_combine.proofs.receiver.CombinedReceiver.finish.Goals as goal

pub returns-clause-stands : goal.returns-clause-stands
returns-clause-stands g c start history log awaits =
    c.finish.ensures.stands start history log
    (subst (λ r. AwaitsAfterAll g.M.Recall.content start r history log (Some c.args.over))
    (sym c.self.view_is) awaits)
