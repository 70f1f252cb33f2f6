use Rattle.nx_code.specs.Packed.{packed_part}
use Rattle.nx_combine.proofs.lemmas.Hearing.{hears_heard}
use Rattle.nx_combine.proofs.taker.CombinedTaker.hear.Goals as goal

pub returns-clause-heard : goal.returns-clause-heard
returns-clause-heard c =
    let heard = c.hear_elements.result in
    hears_heard c.args.synchroniser.now c.hear_elements.new.synchroniser c.args.self.now
    c.hear_elements.new.taker (packed_part c.args.numbers.now c.args.from heard.0) heard.1
    c.hear_elements.ensures.hears.hears
