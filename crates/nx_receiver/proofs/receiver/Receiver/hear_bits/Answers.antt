use Rattle.nx_receiver.specs.Receiver.{plain_kind}
use Rattle.nx_receiver.specs.private.Awaiting.{Awaits}
use Rattle.nx_receiver.specs.private.PlainReceiver.{none-awaited}
use Rattle.nx_receiver.proofs.lemmas.receiver.Feeds.{awaits_nothing, fed_awaits, fed_before, fed_bits}
use Rattle.nx_receiver.proofs.lemmas.receiver.Feeds.{fed_quiet, is_none}
use Rattle.nx_receiver.proofs.receiver.Receiver.hear_bits.Goals as goal

pub returns-then-is_some-clause-stands : goal.returns-then-is_some-clause-stands
returns-then-is_some-clause-stands g c =
    let h = fed_bits (plain_kind g.M.Recall.content) (Awaits g.M.Recall.content)
    c.args.self.now c.loop-at.self c.hear_first-count.new.self
    c.args.bits.now c.loop-at.at c.hear_first-count.result.0 c.hear_first-count.result.1
    c.loop-at.invariant c.hear_first-count.ensures.within
    (λ start history log s. c.hear_first-count.ensures.stands start history log s)
    (λ start history log s k lt. c.hear_first-count.ensures.first start history log s k lt) in
    λ start history log stands. fed_awaits h start history log stands

pub returns-then-is_some-clause-first : goal.returns-then-is_some-clause-first
returns-then-is_some-clause-first g c =
    let h = fed_bits (plain_kind g.M.Recall.content) (Awaits g.M.Recall.content)
    c.args.self.now c.loop-at.self c.hear_first-count.new.self
    c.args.bits.now c.loop-at.at c.hear_first-count.result.0 c.hear_first-count.result.1
    c.loop-at.invariant c.hear_first-count.ensures.within
    (λ start history log s. c.hear_first-count.ensures.stands start history log s)
    (λ start history log s k lt. c.hear_first-count.ensures.first start history log s k lt) in
    λ start history log stands k lt. fed_before h start history log stands k lt

pub loop-at-preserved : goal.loop-at-preserved
loop-at-preserved g c =
    let h = fed_bits (plain_kind g.M.Recall.content) (Awaits g.M.Recall.content)
    c.args.self.now c.loop-at.self c.hear_first-count.new.self
    c.args.bits.now c.loop-at.at c.hear_first-count.result.0 c.hear_first-count.result.1
    c.loop-at.invariant c.hear_first-count.ensures.within
    (λ start history log s. c.hear_first-count.ensures.stands start history log s)
    (λ start history log s k lt. c.hear_first-count.ensures.first start history log s k lt) in
    fed_quiet h (none-awaited g.M.Recall.content)
    (is_none c.hear_first-count.result.1 c.is_some.result c.is_some.ensures c.if-is_some.false)

pub returns-clause-stands : goal.returns-clause-stands
returns-clause-stands g c start history log stands =
    awaits_nothing g.M.Recall.content start c.loop-at.self _ _ _ log
    (c.loop-at.invariant.stands start history log stands)
