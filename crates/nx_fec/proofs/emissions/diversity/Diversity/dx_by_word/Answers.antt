use Rattle.nx_fec.proofs.lemmas.emissions.Pairing.{latest-of-class}
use Rattle.nx_fec.proofs.emissions.diversity.Diversity.dx_by_word.Goals as goal

pub returns-clause-latest : goal.returns-clause-latest
returns-clause-latest c =
    latest-of-class _ c.args.self.now c.args.word _ c.class_of.ensures.class c.push.ensures.latest

pub returns-clause-stands : goal.returns-clause-stands
returns-clause-stands c words h =
    latest-of-class _ words c.args.word _ c.class_of.ensures.class (c.push.ensures.stands words h)
