use Rattle.std.proofs.Common.{◌≡◌, ◌+◌, ◌++◌, map, take}
use Rattle.arrayvec.specs.ArrayVec.{array_vec_len}
use Rattle.nx_fec.specs.texts.TableText.{element_letter}
use Rattle.nx_fec.proofs.texts.table_text.push_elements.Given as goal

-- the letters of the elements so far are appended
abbrev pub invariant-loop-element : goal.invariant-loop-element
invariant-loop-element l =
    (l.text.items ≡ l.fn.text.items ++ map element_letter (take l.element-index l.elements))
    × (array_vec_len l.text ≡ array_vec_len l.fn.text + l.element-index)
