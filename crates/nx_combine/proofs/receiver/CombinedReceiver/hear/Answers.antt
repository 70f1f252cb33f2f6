use Rattle.std.proofs.Common.{[], drop, subst, take}
use Rattle.nx_receiver.specs.ChannelReceiver.{HandsOutNoneBeforeBy, HearsUpToBy}
use Rattle.nx_combine.specs.CombinedReceiver.{AwaitsAfterAll, combined_kind, receiver_held}
use Rattle.nx_combine.proofs.receiver.CombinedReceiver.hear.Goals as goal

pub returns-clause-stands : goal.returns-clause-stands
returns-clause-stands g c =
    let content = g.M.Recall.content in
    subst (λ r. HearsUpToBy (combined_kind content) (AwaitsAfterAll content) r
    (receiver_held c.hear.new.self)
    (take c.hear.result.0 (drop c.args.from c.args.packed.now)) c.hear.result.1)
    c.self.view_is (c.hear.ensures.stands [])

pub returns-clause-first : goal.returns-clause-first
returns-clause-first g c =
    subst (λ r. HandsOutNoneBeforeBy (combined_kind g.M.Recall.content) r
    (drop c.args.from c.args.packed.now) c.hear.result.0)
    c.self.view_is (c.hear.ensures.first [])
