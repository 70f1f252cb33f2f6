use Rattle.std.proofs.Common.{[], get_or, ap, ◌∙◌}
use Rattle.nx_code.specs.Table.{row, table, cell}
use Rattle.nx_code.proofs.lemmas.Table.{cell-TABLE}
use Rattle.nx_code.proofs.table.cell_of.Goals as goal

pub returns : goal.returns
returns c =
    c.cell.ensures
    ∙ cell-TABLE c.args.shift c.place_of_signal.result _ c.place_of_signal.ensures.range
    ∙ ap (λ at. cell c.args.shift (get_or table at (row 0x00 [] [])))
    c.place_of_signal.ensures.place
