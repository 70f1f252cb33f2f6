use Rattle.nx_code.specs.Word.{elements_from}
use Rattle.nx_sync.proofs.packed_hunt.element.Goals as goal

pub returns : goal.returns
unfolding elements_from
returns c = c.elements_at.ensures.elements
