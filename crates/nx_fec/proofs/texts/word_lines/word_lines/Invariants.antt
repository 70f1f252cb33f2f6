use Rattle.std.proofs.Common.{◌≡◌}
use Rattle.nx_fec.specs.emissions.Aligned.{words_of}
use Rattle.nx_fec.specs.texts.WordLines.{first_word_lines}
use Rattle.nx_fec.proofs.texts.word_lines.word_lines.Given as goal

-- the lines so far
abbrev pub invariant-loop-slot : goal.invariant-loop-slot
invariant-loop-slot l = l.text.items ≡ first_word_lines (words_of l.bits) l.slot
