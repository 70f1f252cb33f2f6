use Rattle.std.proofs.Common.{refl, sym, ◌∙◌}
use Rattle.nx_watch.proofs.lemmas.lines.Acting.{counts-acting, counts-idle, first-idle, keeps-on}
use Rattle.nx_watch.proofs.lemmas.lines.Acting.{later-idle, none-is}
use Rattle.nx_watch.proofs.lines.line_effects.LineEffects.count.Goals as goal

pub returns-then-acted-clause-kept : goal.returns-then-acted-clause-kept
returns-then-acted-clause-kept c = λ first lines line before kept same acted moments.
    counts-acting first lines line before c.args.self.now _ kept same
    (sym acted ∙ c.if-acted.true) (keeps-on first _ c.args.self.now _ moments refl refl refl)
    refl refl refl

pub returns-then-is_none-clause-kept : goal.returns-then-is_none-clause-kept
returns-then-is_none-clause-kept c = λ first lines line before kept same acted moments.
    counts-idle first lines line before c.args.self.now _ kept same
    (sym acted ∙ c.if-acted.false) (keeps-on first _ c.args.self.now _ moments refl refl refl)
    refl refl
    (first-idle first lines before c.args.self.now kept same
    (none-is c.args.self.now.first_without c.if-is_none.ensures))

pub returns-else-is_none-clause-kept : goal.returns-else-is_none-clause-kept
returns-else-is_none-clause-kept c = λ first lines line before kept same acted moments.
    counts-idle first lines line before c.args.self.now _ kept same
    (sym acted ∙ c.if-acted.false) (keeps-on first _ c.args.self.now _ moments refl refl refl)
    refl refl
    (later-idle first lines before c.args.self.now kept same c.if-is_none.ensures)
