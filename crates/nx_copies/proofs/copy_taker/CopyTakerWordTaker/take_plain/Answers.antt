use Rattle.nx_copies.proofs.lemmas.copy_hearer.PlainWords.{plain_taken}
use Rattle.nx_copies.proofs.copy_taker.CopyTakerWordTaker.take_plain.Goals as goal

pub returns-clause-hears : goal.returns-clause-hears
returns-clause-hears c = λ is old new brings.
    plain_taken c.args.self.now c.hear_plain.new.self c.args.words.now old new
    c.requires.pairs.some (c.hear_plain.ensures.plain is) brings
