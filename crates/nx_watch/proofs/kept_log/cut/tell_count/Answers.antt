use Rattle.std.proofs.Common.{codes, subst}
use Rattle.nx_watch.specs.private.Cutting.{TellsMore}
use Rattle.nx_watch.proofs.lemmas.log.Cutting.{count-one, count-other, tells-numbers}
use Rattle.nx_watch.proofs.kept_log.cut.tell_count.Goals as goal

pub returns-then-is_one : goal.returns-then-is_one
returns-then-is_one g c =
    let new = c.tell-then-is_one.new.notices in
    subst (TellsMore g.F.Write.contents c.args.notices.now new)
    (count-one g.F.Write.contents c.args.count c.args.line c.if-is_one.true)
    (tells-numbers g.F.Write.contents c.args.notices.now c.tell.new.notices new
    c.args.count c.args.line (codes "navtex: ") (codes " byte at line ")
    (codes " of the log is no kept entry, and is cut\n") c.tell.ensures
    c.tell-then-is_one.ensures)

pub returns-else-is_one : goal.returns-else-is_one
returns-else-is_one g c =
    let new = c.tell-else-is_one-2.new.notices in
    subst (TellsMore g.F.Write.contents c.args.notices.now new)
    (count-other g.F.Write.contents c.args.count c.args.line c.if-is_one.false)
    (tells-numbers g.F.Write.contents c.args.notices.now c.tell-else-is_one.new.notices new
    c.args.count c.args.line (codes "navtex: ") (codes " bytes at line ")
    (codes " of the log are no kept entry, and are cut\n") c.tell-else-is_one.ensures
    c.tell-else-is_one-2.ensures)
