use Rattle.std.proofs.Common.{sym, ◌∙◌}
use Rattle.nx_watch.proofs.lemmas.lines.Scanning.{cuts-err, cuts-ok, cuts-passing}
use Rattle.nx_watch.proofs.lines.any_scanner.AnyScanner.cut.Goals as goal

pub returns-then-self : goal.returns-then-self
returns-then-self c = λ bytes lines h.
    cuts-passing c.args.self.now bytes lines c.if-self.true h

pub returns-then-is_err : goal.returns-then-is_err
returns-then-is_err c = λ bytes lines h.
    cuts-err c.args.self.now bytes lines c.end.result
    (sym c.is_err.ensures.value ∙ c.if-is_err.true) c.if-self.false h c.end.ensures

pub returns : goal.returns
returns c = λ bytes lines h.
    cuts-ok c.args.self.now bytes lines c.end.result
    (sym c.is_err.ensures.value ∙ c.if-is_err.false) c.if-self.false h c.end.ensures
