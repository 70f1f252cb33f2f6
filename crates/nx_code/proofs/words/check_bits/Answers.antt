use Rattle.std.proofs.Common.{◌<◌, eqb, not, sym, subst, ap, ◌∙◌, eq-eqb}
use Rattle.std.proofs.lemmas.Bool.{eqb-true}
use Rattle.nx_code.proofs.lemmas.Class.{weight-class_of}
use Rattle.nx_code.proofs.words.check_bits.Goals as goal

pub returns : goal.returns
returns c =
    let low = subst (λ n. n < 128) c.number.ensures.number c.number.ensures.range in
    let e = weight-class_of c.args.word low
    ∙ ap (λ n. not (eqb n 0)) (sym c.class_of.ensures.class) in
    (λ h. eqb-true _ _ (e ∙ h), λ h. sym e ∙ eq-eqb _ _ h)
