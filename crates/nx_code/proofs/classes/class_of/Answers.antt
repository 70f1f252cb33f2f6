use Rattle.std.proofs.Common.{◌<◌, ap, sym, subst, ◌∙◌}
use Rattle.nx_code.specs.Classes.{class_of}
use Rattle.nx_code.proofs.lemmas.Class.{class_of-BY_WORD, class_of-low}
use Rattle.nx_code.proofs.classes.class_of.Goals as goal

pub returns-clause-class : goal.returns-clause-class
returns-clause-class c =
    let low : c.from.result < 128 =
    subst (λ n. n < 128) (sym c.from.ensures) c.number.ensures.range in
    class_of-BY_WORD c.from.result _ low ∙ ap class_of (c.from.ensures ∙ c.number.ensures.number)

pub returns-clause-range : goal.returns-clause-range
returns-clause-range c =
    let low : c.from.result < 128 =
    subst (λ n. n < 128) (sym c.from.ensures) c.number.ensures.range in
    subst (λ n. n < 34) (sym (class_of-BY_WORD c.from.result 0 low))
    (class_of-low c.from.result low)
