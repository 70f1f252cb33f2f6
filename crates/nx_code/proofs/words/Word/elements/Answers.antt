use Rattle.std.proofs.Common.{refl, sym, ap, ◌∙◌, arith, length-set}
use Rattle.nx_code.specs.Word.{elements, elements_from}
use Rattle.nx_code.proofs.lemmas.Word.{elements_from-more, elements_from-all}
use Rattle.nx_code.proofs.words.Word.elements.Goals as goal

pub loop-place-init : goal.loop-place-init
unfolding elements
loop-place-init c = (refl, ap (elements_from 7) c.self.view_is)

pub loop-place-preserved : goal.loop-place-preserved
loop-place-preserved c =
    let i = c.loop-place.invariant in (
      simp length-set i.0,
      elements_from-more c.loop-place.bits c.loop-place.place c.loop-place.rest
          i.0 c.loop-place-test.true ∙ i.1,
    )

pub returns : goal.returns
returns c =
    let i = c.loop-place.invariant in
    sym (elements_from-all c.loop-place.bits c.loop-place.place c.loop-place.rest i.0 (omega arith))
    ∙ i.1
