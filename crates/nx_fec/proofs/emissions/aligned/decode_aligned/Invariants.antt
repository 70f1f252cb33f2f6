use Rattle.std.proofs.Common.{◌≡◌}
use Rattle.nx_code.specs.Reading.{shift_after_all, text}
use Rattle.nx_code.specs.declared.shifts.Shift.TheVariants.{Letters}
use Rattle.nx_fec.specs.emissions.Pairing.{IsLatest}
use Rattle.nx_fec.specs.emissions.Aligned.{dx_words, words_of}
use Rattle.nx_fec.proofs.lemmas.emissions.Aligned.{taken_first}
use Rattle.nx_fec.proofs.emissions.aligned.decode_aligned.Given as goal

-- the DX words given, and the shift and the text of what was taken
abbrev pub invariant-loop-position : goal.invariant-loop-position
invariant-loop-position l = record {
  given : IsLatest l.diversity (dx_words (words_of l.bits) 0 l.position);
  shift : l.printer ≡ shift_after_all (taken_first (words_of l.bits) l.position) Letters;
  printed : l.text.items ≡ text (taken_first (words_of l.bits) l.position) Letters;
}
