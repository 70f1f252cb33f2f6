use Rattle.std.proofs.Common.{drop}
use Rattle.nx_receiver.specs.Receiver.{headed_list}
use Rattle.nx_receiver.proofs.lemmas.receiver.Feeds.{fed_before, fed_finished, fed_no_copy, fed_over}
use Rattle.nx_receiver.proofs.lemmas.receiver.Feeds.{fed_packed, fed_quiet}
use Rattle.nx_receiver.proofs.lemmas.receiver.Given.{no_head}
use Rattle.nx_receiver.proofs.channel_receiver.next_printed_of.Goals as goal

-- an entry is printed
pub returns-then-is_some-clause-stands : goal.returns-then-is_some-clause-stands
returns-then-is_some-clause-stands g c start history log stands =
    let h = fed_packed g.R.ChannelReceiver.kind g.R.ChannelReceiver.awaits c.args.receiver.now
    c.loop-heard.receiver c.hear-count.new.self
    c.args.packed.now c.args.from c.loop-heard.heard c.hear-count.result.0 c.hear-count.result.1
    c.loop-heard.invariant c.hear-count.ensures.within
    (λ start history log s. c.hear-count.ensures.stands start history log s)
    (λ start history log s k lt. c.hear-count.ensures.first start history log s k lt) in
    c.finish-head.ensures.stands start _ log
    (fed_over h c.in-Some.over c.in-Some.is start history log stands)

pub returns-then-is_some-clause-first : goal.returns-then-is_some-clause-first
returns-then-is_some-clause-first g c =
    let h = fed_packed g.R.ChannelReceiver.kind g.R.ChannelReceiver.awaits c.args.receiver.now
    c.loop-heard.receiver c.hear-count.new.self
    c.args.packed.now c.args.from c.loop-heard.heard c.hear-count.result.0 c.hear-count.result.1
    c.loop-heard.invariant c.hear-count.ensures.within
    (λ start history log s. c.hear-count.ensures.stands start history log s)
    (λ start history log s k lt. c.hear-count.ensures.first start history log s k lt) in
    λ start history log stands k lt. fed_before h start history log stands k lt

pub loop-heard-preserved : goal.loop-heard-preserved
loop-heard-preserved g c =
    let h = fed_packed g.R.ChannelReceiver.kind g.R.ChannelReceiver.awaits c.args.receiver.now
    c.loop-heard.receiver c.hear-count.new.self
    c.args.packed.now c.args.from c.loop-heard.heard c.hear-count.result.0 c.hear-count.result.1
    c.loop-heard.invariant c.hear-count.ensures.within
    (λ start history log s. c.hear-count.ensures.stands start history log s)
    (λ start history log s k lt. c.hear-count.ensures.first start history log s k lt) in
    let head = c.finish-head.result in
    let text = g.R.ChannelReceiver.kind.text_of c.finish-head.new.self in
    fed_finished h c.finish-head.new.self c.in-Some.over (headed_list head text) c.in-Some.is
    (λ start history log a. c.finish-head.ensures.stands start history log a)
    (no_head head text c.is_some.result c.is_some.ensures c.if-is_some.false)

-- nothing is over, and all was heard
pub returns-in_default-clause-stands : goal.returns-in_default-clause-stands
returns-in_default-clause-stands g c start history log stands =
    let h = fed_packed g.R.ChannelReceiver.kind g.R.ChannelReceiver.awaits c.args.receiver.now
    c.loop-heard.receiver c.hear-count.new.self
    c.args.packed.now c.args.from c.loop-heard.heard c.hear-count.result.0 c.hear-count.result.1
    c.loop-heard.invariant c.hear-count.ensures.within
    (λ start history log s. c.hear-count.ensures.stands start history log s)
    (λ start history log s k lt. c.hear-count.ensures.first start history log s k lt) in
    fed_no_copy (fed_quiet h g.met.R.ChannelReceiver.none_awaited c.in_default.is) start history log
    stands

pub returns-in_default-clause-first : goal.returns-in_default-clause-first
returns-in_default-clause-first g c =
    let h = fed_packed g.R.ChannelReceiver.kind g.R.ChannelReceiver.awaits c.args.receiver.now
    c.loop-heard.receiver c.hear-count.new.self
    c.args.packed.now c.args.from c.loop-heard.heard c.hear-count.result.0 c.hear-count.result.1
    c.loop-heard.invariant c.hear-count.ensures.within
    (λ start history log s. c.hear-count.ensures.stands start history log s)
    (λ start history log s k lt. c.hear-count.ensures.first start history log s k lt) in
    λ start history log stands k lt. fed_before h start history log stands k lt
