use Rattle.std.proofs.Common.{[], subst}
use Rattle.std.proofs.lemmas.Result.{on_ok_weaker}
use Rattle.nx_copies.specs.Events.{at_moment}
use Rattle.nx_receiver.specs.ChannelReceiver.{TakesEventBy}
use Rattle.nx_combine.specs.CombinedReceiver.{combined_kind, receiver_held}
use Rattle.nx_combine.proofs.receiver.CombinedReceiver.set_moment.Goals as goal

pub returns-clause-stands : goal.returns-clause-stands
returns-clause-stands g c =
    on_ok_weaker c.set_moment.result
    (λ takes. subst (λ r. TakesEventBy (combined_kind g.M.Recall.content) r
    (receiver_held c.set_moment.new.self)
    (at_moment c.args.moment))
    c.self.view_is (takes [])) c.set_moment.ensures.stands
