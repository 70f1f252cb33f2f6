use Rattle.std.proofs.Common.{◌++◌, ◌∷◌, [], sym, subst, arith}
use Rattle.nx_log.specs.private.Standing.{StandsSomehow}
use Rattle.nx_log.proofs.lemmas.reader.Tails.{breaks_off, goes_on_torn}
use Rattle.nx_log.proofs.entries.tail.Tail.with.Goals as goal

pub returns-then-self-eq0-clause-ends : goal.returns-then-self-eq0-clause-ends
returns-then-self-eq0-clause-ends c = λ before front tail reach s.
    breaks_off c.args.self reach c.args.byte before front tail
    (c.stays_gap.ensures.tears c.if-stays_gap.false) c.if-self-eq0.true s

pub returns-clause-goes_on : goal.returns-clause-goes_on
returns-clause-goes_on c = λ before front tail reach line s.
    subst (λ t. StandsSomehow t before front reach (tail ++ c.args.byte ∷ []))
    (sym c.with_torn.ensures)
    (goes_on_torn c.args.self reach c.args.byte c.args.line before front tail
    (c.stays_gap.ensures.tears c.if-stays_gap.false) c.requires
    (omega (arith, c.if-self-eq0.false)) line s)
