use Rattle.std.proofs.Common.{◌++◌, List, ℕ, codes, subst}
use Rattle.nx_watch.specs.LineRun.{HasTold}
use Rattle.nx_program.specs.FaultText.{open_reason}
use Rattle.nx_program.proofs.lemmas.outcomes.WatchLines.{more-told, two-told}
use Rattle.nx_program.proofs.watch_command.tell_unopened.Goals as goal

pub returns : goal.returns
returns g c = λ old text told.
    let new = g.E.Write.contents c.write_more-2.new.writer.inner in
    let failures = c.write_more-2.new.writer.failures in
    let head = text ++ (codes "navtex: the log " ++ (c.args.log.now ++ codes " can't be opened")) in
    more-told old new failures text (codes "navtex: the log ") c.args.log.now
    (codes " can't be opened") (open_reason c.args.why ++ codes "\n")
    (two-told old new failures head (open_reason c.args.why) (codes "\n")
    (subst (λ (reason : List ℕ). HasTold old new failures ((head ++ reason) ++ codes "\n"))
    c.open_reason.ensures
    (c.write_more-2.ensures.written old _ (c.write_more.ensures.written old _
    (c.tell_of_log.ensures old text told)))))
