use Rattle.std.proofs.Common.{◌≡◌, ◌*◌, ◌≤◌, take}
use Rattle.std.specs.List.{flat_map}
use Rattle.arrayvec.specs.ArrayVec.{array_vec_len}
use Rattle.nx_code.specs.Table.{table}
use Rattle.nx_fec.specs.texts.TableText.{table_line}
use Rattle.nx_fec.proofs.texts.table_text.lines.Given as goal

-- the lines so far, each of at most 23 bytes
abbrev pub invariant-loop-at : goal.invariant-loop-at
invariant-loop-at l =
    (l.text.items ≡ flat_map table_line (take l.at table)) × (array_vec_len l.text ≤ 23 * l.at)
