use Rattle.std.proofs.Common.{◌++◌, subst}
use Rattle.std.specs.Prelude.{codes, decimal}
use Rattle.nx_watch.specs.LineRun.{HasTold}
use Rattle.nx_watch.proofs.lines.telling.tell_first.Goals as goal

pub returns-clause-none : goal.returns-clause-none
returns-clause-none g c = λ none old text h.
    subst (λ l. HasTold old (g.F.Write.contents c.tell.new.notices.inner)
    c.tell.new.notices.failures
    (text ++ (codes "navtex: line " ++ (decimal c.args.number ++ l))))
    c.told.ensures (c.tell.ensures old text h)
