use Rattle.std.proofs.Common.{◌≡◌, ◌++◌, ◌∙◌, ap, subst}
use Rattle.std.specs.Prelude.{codes, decimal}
use Rattle.nx_log.specs.Notices.{HaveTold, notices_of}
use Rattle.nx_log.proofs.lemmas.runs.Telling.{three}
use Rattle.nx_log.proofs.writing.notices.tell_line.Goals as goal

pub returns : goal.returns
returns g c = λ old before h.
    let number : c.as_bytes.result.now ≡ decimal c.args.line =
    c.as_bytes.ensures.value ∙ c.format.ensures.text in
    let written = c.deref.ensures.0
    ∙ three c.new-text.result.items c.append.new.text.items c.append-2.new.text.items
    c.append-3.new.text.items (codes "navtex: line ") (decimal c.args.line) c.args.behind.now
    c.new-text.ensures c.append.ensures.items
    (c.append-2.ensures.items ∙ ap (λ l. c.append.new.text.items ++ l) number)
    c.append-3.ensures.items in
    subst (HaveTold (notices_of old (g.N.Write.contents c.tell.new.notices.inner)
    c.tell.new.notices.failures)) (ap (λ l. before ++ l) written) (c.tell.ensures old before h)
