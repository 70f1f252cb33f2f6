use Rattle.std.proofs.Common.{◌∙◌, ◌++◌, ap}
use Rattle.nx_fec.specs.texts.Hexadecimal.{two_hex_digits}
use Rattle.nx_fec.specs.texts.WordLines.{word_line}
use Rattle.nx_fec.proofs.lemmas.texts.TableText.{line_parts}
use Rattle.nx_fec.proofs.texts.word_lines.push_line.Goals as goal

pub returns : goal.returns
unfolding word_line
returns c =
    line_parts c.args.text.now.items _ _ _ _ _ _ _ _ _ _ _ _
    (c.in_ok-extend_from_slice.ensures.items
    ∙ ap (λ l. c.args.text.now.items ++ l) (c.as_bytes.ensures.value ∙ c.format.ensures.text))
    c.in_ok-push.ensures.items
    (c.in_ok-extend_from_slice-2.ensures.items
    ∙ ap (λ l. c.push.new.self.items ++ l) c.role_of_slot.ensures)
    c.in_ok-push-2.ensures.items
    (c.in_ok-extend_from_slice-3.ensures.items
    ∙ ap (λ l. c.push-2.new.self.items ++ l)
    (c.two_hex_digits.ensures ∙ ap two_hex_digits c.number.ensures.number))
    c.in_ok-push-3.ensures.items
    (c.in_ok-extend_from_slice-4.ensures.items
    ∙ ap (λ l. c.push-3.new.self.items ++ l) c.name_of_word.ensures)
    c.in_ok-push-4.ensures.items
