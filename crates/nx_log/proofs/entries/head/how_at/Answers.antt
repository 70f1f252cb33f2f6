use Rattle.std.proofs.lemmas.Result.{err_from_is_err_and}
use Rattle.nx_log.proofs.lemmas.beginnings.Heads.{end_lacks}
use Rattle.nx_log.proofs.entries.head.how_at.Goals as goal

pub returns-in_err-rest-clause-lacks : goal.returns-in_err-rest-clause-lacks
returns-in_err-rest-clause-lacks c =
    let p = err_from_is_err_and c.from_residual.result c.from_residual.ensures.1 in
    rw p.1 (rw p.2 (end_lacks c.args.bytes.now c.args.bytes.now _ _ _ c.end_begun-how.ensures.name
    c.end_begun-how.ensures.only c.in_err-rest.ensures.lacks))
