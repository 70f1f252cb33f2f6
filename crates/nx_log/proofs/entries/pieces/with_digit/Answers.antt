use Rattle.std.proofs.Common.{[], ◌∷◌, ◌++◌, ap, append_assoc, arith, length, rules, ◌∙◌}
use Rattle.std.specs.Prelude.{decimal}
use Rattle.nx_log.specs.private.Stages.{written}
use Rattle.nx_log.proofs.lemmas.beginnings.Counts.{is_digit, zero_front}
use Rattle.nx_log.proofs.entries.pieces.with_digit.Goals as goal

pub returns-then-not-is_ascii_digit-clause-none : goal.returns-then-not-is_ascii_digit-clause-none
returns-then-not-is_ascii_digit-clause-none c = λ b.
    let d = is_digit c.args.least c.args.byte (written c.args.number) b in
    let low = d.0 in
    let high = d.1 in
    first_of (omega arith, grind arith, search rules)

pub returns-in_default-clause-none : goal.returns-in_default-clause-none
returns-in_default-clause-none c = λ b.
    let e = b.begins.is
    ∙ ap (λ o. (written o ++ c.args.byte ∷ []) ++ b.begins.more) c.in_default.ensures.none
    ∙ append_assoc (decimal 0) (c.args.byte ∷ []) b.begins.more in
    let z = zero_front b.number b.few (c.args.byte ∷ b.begins.more) e in
    omega (arith, ap length z.1)
