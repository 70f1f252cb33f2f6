use Rattle.std.proofs.Common.{[], subst}
use Rattle.std.proofs.lemmas.Result.{on_ok_weaker}
use Rattle.nx_copies.specs.Events as events
use Rattle.nx_receiver.specs.ChannelReceiver.{TakesEventBy}
use Rattle.nx_receiver.specs.Commands.{said}
use Rattle.nx_combine.specs.CombinedReceiver.{combined_kind, receiver_held}
use Rattle.nx_combine.proofs.receiver.CombinedReceiver.command.Goals as goal

pub returns-clause-stands : goal.returns-clause-stands
returns-clause-stands g c =
    on_ok_weaker c.command.result
    (λ takes. subst (λ r. TakesEventBy (combined_kind g.M.Recall.content) r
    (receiver_held c.command.new.self)
    (events.command (said c.args.command)))
    c.self.view_is (takes [])) c.command.ensures.stands
