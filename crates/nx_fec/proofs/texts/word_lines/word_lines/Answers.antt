use Rattle.std.proofs.Common.{◌≡◌, ◌∙◌, ◌++◌, length, ap, sym, arith}
use Rattle.nx_fec.specs.emissions.Aligned.{words_of}
use Rattle.nx_fec.specs.texts.WordLines.{first_word_lines, word_line}
use Rattle.nx_fec.proofs.lemmas.emissions.Aligned.{get_or-words_of, length-words_of}
use Rattle.nx_fec.proofs.lemmas.texts.WordLine.{first_word_lines-more}
use Rattle.nx_fec.proofs.texts.word_lines.word_lines.Goals as goal

pub loop-slot-init : goal.loop-slot-init
unfolding first_word_lines
loop-slot-init c = c.new-text.ensures.items

pub loop-slot-preserved : goal.loop-slot-preserved
loop-slot-preserved c =
    let bits = c.args.bits.now in
    let slot = c.loop-slot.slot in
    let word = c.word_of_slot.result in
    c.in_default.ensures
    ∙ ap (λ l. l ++ word_line slot word) c.loop-slot.invariant
    ∙ first_word_lines-more (words_of bits) slot word
    (c.word_of_slot.ensures ∙ sym (get_or-words_of bits slot (omega arith)))

pub returns-clause-text : goal.returns-clause-text
returns-clause-text c =
    let all : c.loop-slot.slot ≡ length (words_of c.args.bits.now) =
    omega (arith, length-words_of c.args.bits.now) in
    c.loop-slot.invariant ∙ ap (first_word_lines (words_of c.args.bits.now)) all
