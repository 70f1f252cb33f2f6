use Rattle.std.proofs.Common.{◌++◌, ap, not, sym, subst}
use Rattle.nx_watch.specs.LineRun.{HasTold}
use Rattle.nx_watch.specs.LinesTold.{put_told}
use Rattle.std.proofs.lemmas.Bool.{and_from}
use Rattle.nx_watch.proofs.lines.telling.tell_failed_put.Goals as goal

pub returns-then-not-had_failed : goal.returns-then-not-had_failed
returns-then-not-had_failed g c = λ old text h.
    subst (λ b. HasTold old (g.F.Write.contents c.write_more.new.writer.inner)
    c.write_more.new.writer.failures (text ++ put_told b))
    (sym (and_from _ _ c.if-has_failed.true (ap not c.if-not-had_failed.true)))
    (c.write_more.ensures.written old text h)
