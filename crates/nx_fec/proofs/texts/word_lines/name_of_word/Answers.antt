use Rattle.std.proofs.Common.{◌∙◌, sym}
use Rattle.nx_fec.proofs.lemmas.texts.WordLine.{name-signal, name-wrong}
use Rattle.nx_fec.proofs.texts.word_lines.name_of_word.Goals as goal

pub returns-in-Some : goal.returns-in-Some
returns-in-Some c = c.cell_of.ensures
    ∙ sym (name-signal c.in-Some.signal c.args.word c.in-Some.ensures.value)

pub returns-in-None : goal.returns-in-None
returns-in-None c = sym (name-wrong c.args.word
    (λ four. let no = c.in-None.ensures.signals.1 four in cc))
