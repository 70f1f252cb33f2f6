use Rattle.std.proofs.Common.{refl, arith}
use Rattle.nx_code.specs.Word.{elements_from, number_of}
use Rattle.nx_sync.proofs.mark_bits.Marks.none.Goals as goal

pub invariant_of-result : goal.invariant_of-result
unfolding elements_from number_of
invariant_of-result c = (omega arith, refl, refl)

pub returns : goal.returns
unfolding elements_from
returns c = refl
