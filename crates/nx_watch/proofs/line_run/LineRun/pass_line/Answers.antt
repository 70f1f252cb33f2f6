use Rattle.std.proofs.Common.{None, ◌+◌, ◌∙◌, ap}
use Rattle.nx_watch.proofs.lemmas.lines.Told.{tells-idle}
use Rattle.nx_watch.proofs.line_run.LineRun.pass_line.Goals as goal

pub returns-clause-tells : goal.returns-clause-tells
returns-clause-tells g c = λ first old bytes lines reason tells.
    tells-idle g.F.Write.contents c.args.notices.now c.tell_first.new.notices first
    c.args.self.now.effects c.not_understood.new.self old bytes lines None c.args.why
    c.first_without-before.result c.lines.result c.first_without-before.ensures c.lines.ensures
    (c.not_understood.ensures.kept first lines tells.kept_so)
    (c.not_understood.ensures.lines ∙ ap (λ n. n + 1) tells.kept_so.counted)
    c.not_understood.ensures.first c.not_understood.ensures.none reason
    c.tell_first.ensures.some c.tell_first.ensures.none tells
