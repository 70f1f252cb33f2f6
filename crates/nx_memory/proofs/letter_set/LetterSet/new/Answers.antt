use Rattle.std.proofs.Common.{false, replicate, refl}
use Rattle.nx_memory.proofs.lemmas.Letters.{letters_of-none, flags_of-letters_of}
use Rattle.nx_memory.proofs.letter_set.LetterSet.new.Goals as goal

pub returns : goal.returns
returns c = letters_of-none

pub invariant_of-result : goal.invariant_of-result
invariant_of-result c = flags_of-letters_of (replicate 26 false) refl
