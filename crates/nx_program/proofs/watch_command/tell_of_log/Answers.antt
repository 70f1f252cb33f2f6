use Rattle.std.proofs.Common.{◌≡◌, ◌∙◌, ◌++◌, List, ℕ, subst}
use Rattle.nx_watch.specs.LineRun.{HasTold}
use Rattle.nx_program.proofs.lemmas.outcomes.WatchLines.{three-told}
use Rattle.nx_program.proofs.watch_command.tell_of_log.Goals as goal

pub returns : goal.returns
returns g c = λ old text told.
    let name : c.as_bytes.result.now ≡ c.args.log.now = c.as_bytes.ensures.value
    ∙ c.as_str.ensures in
    subst (λ (l : List ℕ). HasTold old (g.E.Write.contents c.write_more-3.new.writer.inner)
    c.write_more-3.new.writer.failures (text ++ (c.args.before.now ++ (l ++ c.args.behind.now))))
    name
    (three-told old (g.E.Write.contents c.write_more-3.new.writer.inner)
    c.write_more-3.new.writer.failures text c.args.before.now c.as_bytes.result.now
    c.args.behind.now
    (c.write_more-3.ensures.written old _ (c.write_more-2.ensures.written old _
    (c.write_more.ensures.written old text told))))
