use Rattle.std.proofs.Common.{◌≢◌, ℕ, List, ◌∷◌, ap, arith, rules, ◌∙◌, ◌++◌}
use Rattle.std.proofs.lemmas.Grind.{common_steps}
use Rattle.std.specs.Prelude.{codes}
use Rattle.std.proofs.lemmas.Result.{err_from_is_err_and}
use Rattle.nx_log.proofs.lemmas.beginnings.Heads.{mark_lacks_digit, mark_lacks_slash, mark_lacks_space}
use Rattle.nx_log.proofs.entries.head.mark_at.Goals as goal

pub returns-in_err-rest-clause-lacks : goal.returns-in_err-rest-clause-lacks
returns-in_err-rest-clause-lacks c =
    let p = err_from_is_err_and c.from_residual.result c.from_residual.ensures.1 in
    let none : (more : List ℕ) → c.args.bytes.now ≢ 32 ∷ more =
    first_of (search rules, grind (arith, common_steps)) in
    rw p.1 (rw p.2 (mark_lacks_slash c.args.bytes.now c.args.bytes.now _ none
    c.in_err-rest.ensures.lacks))

pub returns-in_err-digit-clause-lacks : goal.returns-in_err-digit-clause-lacks
returns-in_err-digit-clause-lacks c =
    let p = err_from_is_err_and c.from_residual-in_err-digit.result
    c.from_residual-in_err-digit.ensures.1 in
    rw p.1 (rw p.2 (mark_lacks_digit c.args.bytes.now _ _ c.in_ok-rest.ensures.found
    c.in_err-digit.ensures.lacks))

pub returns-in_err-rest-2-clause-lacks : goal.returns-in_err-rest-2-clause-lacks
returns-in_err-rest-2-clause-lacks c =
    let p = err_from_is_err_and c.from_residual-in_err-rest-2.result
    c.from_residual-in_err-rest-2.ensures.1 in
    rw p.1 (rw p.2 (mark_lacks_space c.args.bytes.now c.in_ok-digit.rest.now _
    c.in_ok-digit.digit c.in_ok-digit.ensures.in_range
    (c.in_ok-rest.ensures.found ∙ ap (λ l. codes "/" ++ l) c.in_ok-digit.ensures.found)
    c.in_err-rest-2.ensures.lacks))
