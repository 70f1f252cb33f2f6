use Rattle.std.proofs.Common.{◌++◌, ◌≡◌, sym, subst, arith}
use Rattle.nx_watch.specs.LineRun.{HasTold}
use Rattle.nx_watch.proofs.lemmas.lines.Telling.{number-many, number-one}
use Rattle.nx_watch.proofs.lines.telling.tell_number.Goals as goal

pub returns-then-count-gt1 : goal.returns-then-count-gt1
returns-then-count-gt1 g c = λ old text h.
    subst (λ l. HasTold old (g.F.Write.contents c.tell.new.notices.inner)
    c.tell.new.notices.failures (text ++ l))
    (sym (number-many c.args.count c.if-count-gt1.true)) (c.tell.ensures old text h)

pub returns-then-count-gt0 : goal.returns-then-count-gt0
returns-then-count-gt0 g c = λ old text h.
    let one : c.args.count ≡ 1 = omega (arith, c.if-count-gt1.false, c.if-count-gt0.true) in
    subst (λ l. HasTold old (g.F.Write.contents c.tell-then-count-gt0.new.notices.inner)
    c.tell-then-count-gt0.new.notices.failures (text ++ l))
    (sym (number-one c.args.count one)) (c.tell-then-count-gt0.ensures old text h)
