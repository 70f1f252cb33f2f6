use Rattle.std.proofs.Common.{◌-◌, ap, arith}
use Rattle.nx_combine.specs.CombinedReceiver.{CombiningReceiver, receiver_in}
use Rattle.nx_combine.specs.Judging.{combiner_of}
use Rattle.nx_combine.proofs.lemmas.TogetherHears.{none_before_together, part_together}
use Rattle.nx_combine.proofs.receiver_over.ReceiverOver.hear.Goals as goal

pub returns-clause-stands : goal.returns-clause-stands
returns-clause-stands g c places =
    let content = g.M.Recall.content in
    let held = g.S.HoldsFamilies.held in
    let most = g.S.HoldsFamilies.most places in
    let i = c.self.inside in
    let heard = c.hear_elements in
    let old : CombiningReceiver _ = record {
      synchroniser = i.synchroniser;
      taker = i.taker;
      combiner = combiner_of (held i.combiner.store places) i.combiner.finder;
      is_given = i.is_given;
      sendings = i.sendings;
      memory = i.memory;
    } in
    part_together most content (receiver_in held c.args.self.now places) old
    c.args.packed.now c.numbers-numbers.result.now c.args.from (c.len.result - c.args.from)
    heard.new.synchroniser heard.new.taker heard.result
    (ap (λ r. receiver_in held r places) c.self.view_is)
    c.numbers-numbers.ensures.elements (omega arith) (omega (arith, c.len.ensures.count))
    heard.ensures.hears

pub returns-clause-first : goal.returns-clause-first
returns-clause-first g c places =
    let content = g.M.Recall.content in
    let held = g.S.HoldsFamilies.held in
    let most = g.S.HoldsFamilies.most places in
    let i = c.self.inside in
    let heard = c.hear_elements in
    let old : CombiningReceiver _ = record {
      synchroniser = i.synchroniser;
      taker = i.taker;
      combiner = combiner_of (held i.combiner.store places) i.combiner.finder;
      is_given = i.is_given;
      sendings = i.sendings;
      memory = i.memory;
    } in
    none_before_together most content (receiver_in held c.args.self.now places) old
    c.args.packed.now c.numbers-numbers.result.now c.args.from (c.len.result - c.args.from)
    heard.new.synchroniser heard.new.taker heard.result
    (ap (λ r. receiver_in held r places) c.self.view_is)
    c.numbers-numbers.ensures.elements (omega arith) (omega (arith, c.len.ensures.count))
    heard.ensures.hears
