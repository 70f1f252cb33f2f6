use Rattle.std.proofs.Common.{◌∙◌, sym, map, refl}
use Rattle.nx_station.proofs.lemmas.strict_reading.PrintedText.{marked-open}
use Rattle.nx_station.proofs.printed.lines_printed.Goals as goal

pub returns-clause-fault : goal.returns-clause-fault
returns-clause-fault c lines more inside e =
    let before = c.loop-line.invariant in
    marked-open lines (map (λ line. line.now) c.loop-line.lines.items) more c.loop-line.rest.now
    inside before.inside (rw c.in_default.is at c.split_line.ensures.none refl)
    (sym e ∙ before.whole)
