use Rattle.std.proofs.Common.{◌∷◌, ◌++◌, ap, ◌∙◌}
use Rattle.std.specs.Prelude.{codes}
use Rattle.std.proofs.lemmas.Result.{err_from_is_err_and}
use Rattle.nx_log.proofs.lemmas.beginnings.Heads.{name_lacks_b1, name_lacks_b2, name_lacks_bracket, name_lacks_number}
use Rattle.nx_log.proofs.entries.head.name_at.Goals as goal

pub returns-in_err-rest-clause-lacks : goal.returns-in_err-rest-clause-lacks
returns-in_err-rest-clause-lacks c =
    let p = err_from_is_err_and c.from_residual.result c.from_residual.ensures.1 in
    rw p.1 (rw p.2 (name_lacks_bracket c.args.bytes.now c.args.bytes.now _
    c.in_err-rest.ensures.lacks))

pub returns-in_err-b1-clause-lacks : goal.returns-in_err-b1-clause-lacks
returns-in_err-b1-clause-lacks c =
    let p = err_from_is_err_and c.from_residual-in_err-b1.result
    c.from_residual-in_err-b1.ensures.1 in
    rw p.1 (rw p.2 (name_lacks_b1 c.args.bytes.now _ _ c.in_ok-rest.ensures.found
    c.in_err-b1.ensures.lacks))

pub returns-in_err-b2-clause-lacks : goal.returns-in_err-b2-clause-lacks
returns-in_err-b2-clause-lacks c =
    let p = err_from_is_err_and c.from_residual-in_err-b2.result
    c.from_residual-in_err-b2.ensures.1 in
    rw p.1 (rw p.2 (name_lacks_b2 c.args.bytes.now _ _ c.in_ok-b1.b1 c.in_ok-b1.ensures.in_range
    (c.in_ok-rest.ensures.found ∙ ap (λ l. codes "[" ++ l) c.in_ok-b1.ensures.found)
    c.in_err-b2.ensures.lacks))

pub returns-in_err-number-clause-lacks : goal.returns-in_err-number-clause-lacks
returns-in_err-number-clause-lacks c =
    let p = err_from_is_err_and c.from_residual-in_err-number.result
    c.from_residual-in_err-number.ensures.1 in
    rw p.1 (rw p.2 (name_lacks_number c.args.bytes.now _ _ c.in_ok-b1.b1 c.in_ok-b2.b2
    c.in_ok-b1.ensures.in_range c.in_ok-b2.ensures.in_range
    (c.in_ok-rest.ensures.found ∙ ap (λ l. codes "[" ++ l) (c.in_ok-b1.ensures.found
    ∙ ap (λ l. c.in_ok-b1.b1 ∷ l) c.in_ok-b2.ensures.found)) c.in_err-number.ensures.lacks))
