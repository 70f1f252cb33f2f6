use Rattle.std.proofs.Common.{◌≡◌, [], ◌∷◌, ◌++◌, ap, append-nil, arith, rules, subst, sym, ◌∙◌}
use Rattle.std.proofs.lemmas.Grind.{common_steps}
use Rattle.nx_log.specs.private.Stages.{BeginsSome, written}
use Rattle.nx_log.proofs.lemmas.beginnings.Counts.{count_breaks, count_to_come}
use Rattle.nx_log.proofs.lemmas.texts.Moments.{some_same}
use Rattle.nx_log.proofs.entries.pieces.count_at.Goals as goal
use Rattle.nx_log.proofs.entries.pieces.count_at.Goals.{in_default-number-via-in-Some-number+then-byte-end+else-least-whole, in_default-number-via-in-Some-number+else-byte-end, in_default-number-via-in_default-number}

pub returns-in_default-number-clause-lacks : goal.returns-in_default-number-clause-lacks
returns-in_default-number-clause-lacks c =
    let inv = c.loop-byte.invariant in
    count_breaks c.args.least c.args.end c.loop-byte.number c.in-Some.byte.now c.args.bytes.now
    c.loop-byte.rest.now c.in-Some.behind.now c.requires.end inv.few inv.begins
    (λ b. c.in_default-with_digit.ensures.none
    (subst (λ n. BeginsSome n (written c.loop-byte.number ++ c.in-Some.byte.now ∷ []))
    (sym c.from-least.ensures) b))
    (λ n is same enough. elim c.in_default-number.branch [
      | in_default-number-via-in-Some-number+then-byte-end+else-least-whole w ↦
          let one = some_same w.in-Some-number.whole n (sym w.in-Some-number.is ∙ is) in
          omega (arith, w.if-least-whole.false, one, c.from-least.ensures)
      | in_default-number-via-in-Some-number+else-byte-end w ↦ w.if-byte-end.false same
      | in_default-number-via-in_default-number w ↦ w.in_default-number.not-Some n is
    ])
    inv.split (first_of (search rules, grind (arith, common_steps)))

pub returns-clause-lacks : goal.returns-clause-lacks
returns-clause-lacks c =
    let inv = c.loop-byte.invariant in
    let none : c.loop-byte.rest.now ≡ [] = first_of (search rules, grind (arith, common_steps)) in
    count_to_come c.args.least c.args.end c.args.bytes.now (written c.loop-byte.number)
    (inv.split ∙ ap (λ l. written c.loop-byte.number ++ l) none
    ∙ append-nil (written c.loop-byte.number)) inv.begins
