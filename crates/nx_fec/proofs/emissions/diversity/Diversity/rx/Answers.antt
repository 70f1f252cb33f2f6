use Rattle.std.proofs.Common.{ap, sym, ◌∙◌, get_or}
use Rattle.nx_fec.specs.emissions.Pairing.{nothing}
use Rattle.nx_fec.proofs.lemmas.emissions.Pairing.{paired-first}
use Rattle.nx_fec.proofs.emissions.diversity.Diversity.rx.Goals as goal

pub returns-clause-stands : goal.returns-clause-stands
returns-clause-stands c words h =
    c.taken_of.ensures
    ∙ paired-first c.args.self.now words c.self.inside.oldest _ _ _ h
    (ap (λ l. get_or l 0 nothing) (sym c.self.view_is))
    c.class.ensures.counts c.pair_classes.ensures.class
