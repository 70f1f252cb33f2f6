use Rattle.std.proofs.Common.{ap, sym, ◌∙◌, get_or}
use Rattle.nx_code.specs.Classes.{reception_of_class}
use Rattle.nx_fec.specs.emissions.Pairing.{counts_as, nothing, pairing, third_last}
use Rattle.nx_fec.specs.private.WordClasses.{counted_by}
use Rattle.nx_fec.proofs.lemmas.emissions.Pairing.{class_of-counts, paired-first, paired-pairing}
use Rattle.nx_fec.proofs.emissions.diversity.Diversity.rx_by_word.Goals as goal

pub returns-clause-paired : goal.returns-clause-paired
returns-clause-paired c =
    let oldest = c.self.inside.oldest in
    ap reception_of_class c.pair_classes.ensures.class
    ∙ paired-pairing oldest c.class_of.result
    ∙ ap (pairing (counted_by oldest))
    (ap counted_by c.class_of.ensures.class ∙ class_of-counts c.args.word)
    ∙ ap (λ l. pairing (third_last l) (counts_as c.args.word)) c.self.view_is

pub returns-clause-stands : goal.returns-clause-stands
returns-clause-stands c words h =
    paired-first c.args.self.now words c.self.inside.oldest _ _ _ h
    (ap (λ l. get_or l 0 nothing) (sym c.self.view_is))
    (ap counted_by c.class_of.ensures.class ∙ class_of-counts c.args.word)
    c.pair_classes.ensures.class
