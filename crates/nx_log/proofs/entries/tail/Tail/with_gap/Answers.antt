use Rattle.std.proofs.Common.{◌++◌, ◌∷◌, [], sym, subst}
use Rattle.nx_log.specs.private.Standing.{StandsSomehow}
use Rattle.nx_log.proofs.lemmas.reader.Tails.{gap_blank}
use Rattle.nx_log.proofs.entries.tail.Tail.with_gap.Goals as goal

pub returns-then-is_blank-clause-stands : goal.returns-then-is_blank-clause-stands
returns-then-is_blank-clause-stands c = λ before front tail reach s.
    subst (λ t. StandsSomehow t before front reach (tail ++ c.args.byte ∷ []))
    (sym c.with_blank.ensures)
    (gap_blank c.args.self reach c.args.byte before front tail c.requires.gap
    (c.is_blank.ensures.0 c.if-is_blank.true) c.requires.other s)
