use Rattle.std.proofs.Common.{◌∙◌, ap, sym, Some, arith}
use Rattle.nx_fec.proofs.lemmas.emissions.Aligned.{slice_get-words_of, slice_get-words_of_none}
use Rattle.nx_fec.proofs.emissions.aligned.get_word.Goals as goal

pub returns-then-slot-bits : goal.returns-then-slot-bits
returns-then-slot-bits c =
    ap Some c.word_of_slot.ensures ∙ sym (slice_get-words_of _ _ (omega arith))

pub returns-else-slot-bits : goal.returns-else-slot-bits
returns-else-slot-bits c = sym (slice_get-words_of_none _ _ (omega arith))
