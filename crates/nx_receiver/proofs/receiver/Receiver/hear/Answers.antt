use Rattle.std.proofs.Common.{◌-◌, arith}
use Rattle.nx_receiver.proofs.lemmas.receiver.Feeds.{none_before_part, part_awaits}
use Rattle.nx_receiver.proofs.receiver.Receiver.hear.Goals as goal

pub returns-clause-stands : goal.returns-clause-stands
returns-clause-stands g c =
    let i = c.self.inside in
    let heard = c.hear_elements in
    part_awaits g.M.Recall.content c.args.self.now i.memory c.args.packed.now
    c.numbers-numbers.result.now c.args.from (c.len.result - c.args.from) i.synchroniser
    heard.new.synchroniser i.taker heard.new.taker heard.result c.self.view_is
    c.numbers-numbers.ensures.elements (omega arith) (omega (arith, c.len.ensures.count))
    heard.ensures.hears

pub returns-clause-first : goal.returns-clause-first
returns-clause-first g c =
    let i = c.self.inside in
    let heard = c.hear_elements in
    none_before_part g.M.Recall.content c.args.self.now i.memory c.args.packed.now
    c.numbers-numbers.result.now c.args.from (c.len.result - c.args.from) i.synchroniser
    heard.new.synchroniser i.taker heard.new.taker heard.result c.self.view_is
    c.numbers-numbers.ensures.elements (omega arith) (omega (arith, c.len.ensures.count))
    heard.ensures.hears
