use Rattle.std.proofs.Common.{◌≡◌, ◌++◌, ◌∙◌, ap, subst}
use Rattle.std.specs.Prelude.{decimal}
use Rattle.nx_watch.specs.LineRun.{HasTold}
use Rattle.nx_watch.proofs.lines.telling.tell.Goals as goal
use Rattle.nx_log.proofs.lemmas.runs.Telling.{three}

pub returns : goal.returns
returns g c = λ old text h.
    let number : c.as_bytes.result.now ≡ decimal c.args.number =
    c.as_bytes.ensures.value ∙ c.format.ensures.text in
    let written = c.deref.ensures.0
    ∙ three c.new-text.result.items c.append.new.text.items c.append-2.new.text.items
    c.append-3.new.text.items c.args.before.now (decimal c.args.number) c.args.behind.now
    c.new-text.ensures c.append.ensures.items
    (c.append-2.ensures.items ∙ ap (λ l. c.append.new.text.items ++ l) number)
    c.append-3.ensures.items in
    subst (λ l. HasTold old (g.F.Write.contents c.write_more.new.writer.inner)
    c.write_more.new.writer.failures (text ++ l)) written
    (c.write_more.ensures.written old text h)
