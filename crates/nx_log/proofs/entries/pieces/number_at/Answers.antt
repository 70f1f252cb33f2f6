use Rattle.std.proofs.Common.{◌≡◌, ◌+◌, ◌-◌, ◌*◌, ◌∷◌, ◌++◌, ap, arith, max, min, ◌∙◌}
use Rattle.std.proofs.lemmas.Result.{err_from_is_err_and}
use Rattle.nx_log.proofs.lemmas.beginnings.Bytes.{number_lacks_before, number_lacks_tens, number_lacks_units}
use Rattle.nx_log.proofs.entries.pieces.number_at.Goals as goal

pub returns-in_err-rest-clause-lacks : goal.returns-in_err-rest-clause-lacks
returns-in_err-rest-clause-lacks c =
    let p = err_from_is_err_and c.from_residual.result c.from_residual.ensures.1 in
    rw p.1 (rw p.2 (number_lacks_before c.args.before.now c.args.bytes.now c.args.least
    c.args.most _ c.requires.0 c.in_err-rest.ensures.lacks))

pub returns-in_err-tens-clause-lacks : goal.returns-in_err-tens-clause-lacks
returns-in_err-tens-clause-lacks c =
    let p = err_from_is_err_and c.from_residual-in_err-tens.result
    c.from_residual-in_err-tens.ensures.1 in
    rw p.1 (rw p.2 (number_lacks_tens c.args.before.now c.args.bytes.now c.in_ok-rest.rest.now
    c.args.least c.args.most _ c.requires.0 c.requires.1 c.in_ok-rest.ensures.found
    c.in_err-tens.ensures.lacks))

pub returns-in_err-units-clause-lacks : goal.returns-in_err-units-clause-lacks
returns-in_err-units-clause-lacks c =
    let p = err_from_is_err_and c.from_residual-in_err-units.result
    c.from_residual-in_err-units.ensures.1 in
    let range = c.in_ok-tens.ensures.in_range in
    let tens = c.in_ok-tens.tens - 48 in
    let back : c.in_ok-tens.tens ≡ 48 + tens = omega (arith, range.0) in
    let from : c.max-from.result ≡ max c.args.least (tens * 10) =
    omega (arith, c.max-from.ensures) in
    let to : c.min-to.result ≡ min c.args.most (tens * 10 + 9) = omega (arith, c.min-to.ensures) in
    let least = c.requires.0 in
    rw p.1 (rw p.2 (number_lacks_units c.args.before.now c.args.bytes.now
    c.in_ok-tens.rest.now c.args.least c.args.most tens c.max-from.result c.min-to.result _
    c.requires.1 (omega (arith, range.1, c.requires.1))
    (c.in_ok-rest.ensures.found ∙ ap (λ l. c.args.before.now ++ l) (c.in_ok-tens.ensures.found
    ∙ ap (λ b. b ∷ c.in_ok-tens.rest.now) back))
    from to (omega (arith, from, to, range.0, range.1, least)) c.in_err-units.ensures.lacks))
