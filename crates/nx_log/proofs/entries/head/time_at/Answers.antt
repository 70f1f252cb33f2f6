use Rattle.std.proofs.lemmas.Result.{err_from_is_err_and}
use Rattle.nx_log.proofs.lemmas.beginnings.Times.{lacks_civil, lacks_space}
use Rattle.nx_log.proofs.entries.head.time_at.Goals as goal

pub returns-in_err-moment-clause-lacks : goal.returns-in_err-moment-clause-lacks
returns-in_err-moment-clause-lacks c =
    let p = err_from_is_err_and c.from_residual.result c.from_residual.ensures.1 in
    rw p.1 (rw p.2 (lacks_civil c.args.bytes.now _ c.in_err-moment.ensures.lacks))

pub returns-in_err-rest-clause-lacks : goal.returns-in_err-rest-clause-lacks
returns-in_err-rest-clause-lacks c =
    let p = err_from_is_err_and c.from_residual-in_err-rest.result
    c.from_residual-in_err-rest.ensures.1 in
    let found = c.in_ok-moment.ensures.found in
    rw p.1 (rw p.2 (lacks_space c.args.bytes.now _ c.in_ok-moment.moment found.0 _
    c.in_ok-moment.ensures.in_range found.1 found.2 c.in_err-rest.ensures.lacks))
