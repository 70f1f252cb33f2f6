use Rattle.std.proofs.Common.{◌≤◌, ◌++◌, length, map, sym, ap, ◌∙◌, subst}
use Rattle.nx_code.specs.declared.shifts.Shift.TheVariants.{Letters, Figures}
use Rattle.nx_code.specs.Word.{elements}
use Rattle.nx_fec.specs.texts.Hexadecimal.{two_hex_digits}
use Rattle.nx_fec.specs.texts.TableText.{cell_text, element_letter, table_line}
use Rattle.nx_fec.proofs.lemmas.texts.TableText.{cell-short, number-row, line_parts}
use Rattle.nx_fec.proofs.texts.table_text.push_line.Goals as goal

pub push_cell-requires-clause-short : goal.push_cell-requires-clause-short
push_cell-requires-clause-short c =
    subst (λ l. length l ≤ 5) (sym c.cell_of.ensures) (cell-short c.args.signal Letters)

pub push_cell-requires-2-clause-short : goal.push_cell-requires-2-clause-short
push_cell-requires-2-clause-short c =
    subst (λ l. length l ≤ 5) (sym c.cell_of-2.ensures) (cell-short c.args.signal Figures)

pub returns-clause-line : goal.returns-clause-line
unfolding table_line
returns-clause-line c =
    let word = c.word_of-word.ensures ∙ number-row c.args.signal in
    let digits = c.two_hex_digits.ensures ∙ ap two_hex_digits (c.number.ensures.number ∙ word) in
    let letters = c.elements.ensures ∙ ap elements word in
    line_parts c.args.text.now.items _ _ _ _ _ _ _ _ _ _ _ _
    (c.append.ensures.items ∙ ap (λ l. c.args.text.now.items ++ l) digits)
    c.push.ensures.items
    (c.push_elements.ensures.items
    ∙ ap (λ l. c.push.new.self.items ++ map element_letter l) letters) c.push-2.ensures.items
    (c.push_cell.ensures.items ∙ ap (λ l. c.push-2.new.self.items ++ cell_text l) c.cell_of.ensures)
    c.push-3.ensures.items
    (c.push_cell-2.ensures.items
    ∙ ap (λ l. c.push-3.new.self.items ++ cell_text l) c.cell_of-2.ensures)
    c.push-4.ensures.items
