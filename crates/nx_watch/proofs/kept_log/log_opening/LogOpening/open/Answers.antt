use Rattle.nx_watch.proofs.lemmas.log.Cutting.{opened-ok, same-cuts, same-memory, same-notices, told-errs, told-first-errs, told-firsts, told-some}
use Rattle.nx_watch.proofs.kept_log.log_opening.LogOpening.open.Goals as goal

pub returns-clause-same_notices : goal.returns-clause-same_notices
returns-clause-same_notices g c =
    same-notices g.F.Write.contents g.D.DiskFile c.args.device c.args.self.now c.open.new.taker
    c.open.ensures.taken

pub returns-clause-same_memory : goal.returns-clause-same_memory
returns-clause-same_memory g c =
    same-memory g.F.Write.contents g.D.DiskFile c.args.device c.args.self.now c.open.new.taker
    c.open.ensures.taken

pub returns-clause-same_cuts : goal.returns-clause-same_cuts
returns-clause-same_cuts g c =
    same-cuts g.F.Write.contents g.D.DiskFile c.args.device c.args.self.now c.open.new.taker
    c.open.ensures.taken

pub returns-clause-told : goal.returns-clause-told
returns-clause-told g c =
    told-some g.F.Write.contents g.D.DiskFile c.args.device c.args.self.now c.open.new.taker
    c.open.ensures.taken

pub returns-clause-opened : goal.returns-clause-opened
returns-clause-opened g c =
    opened-ok g.F.Write.contents g.D.DiskFile c.args.device c.args.self.now c.open.new.taker
    c.open.result c.open.ensures.opened

pub returns-clause-told_err : goal.returns-clause-told_err
returns-clause-told_err g c =
    told-errs g.F.Write.contents g.D.DiskFile c.args.device c.args.self.now c.open.new.taker
    c.open.result c.open.ensures.taken_err

pub returns-clause-told_first : goal.returns-clause-told_first
returns-clause-told_first g c =
    told-firsts g.F.Write.contents g.D.DiskFile c.args.device c.args.self.now c.open.new.taker
    c.open.result c.open.ensures.opened

pub returns-clause-told_first_err : goal.returns-clause-told_first_err
returns-clause-told_first_err g c =
    told-first-errs g.F.Write.contents g.D.DiskFile c.args.device c.args.self.now c.open.new.taker
    c.open.result c.open.ensures.taken_err
