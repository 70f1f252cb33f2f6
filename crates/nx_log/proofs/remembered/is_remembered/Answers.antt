use Rattle.std.proofs.Common.{◌∙◌, ap, not, sym}
use Rattle.std.specs.Prelude.{◌==◌}
use Rattle.nx_log.proofs.lemmas.texts.QueryTexts.{last-known, none-before}
use Rattle.nx_log.proofs.remembered.is_remembered.Goals as goal
use Rattle.nx_log.specs.Logged.{is_memorable}
use Rattle.nx_log.specs.View.{copy_said}
use Rattle.nx_copies.specs.copies.Printing.{is_good}

pub returns-then-is_good : goal.returns-then-is_good
unfolding is_memorable
returns-then-is_good c = λ text errors characters.
    last-known (is_good (copy_said c.args.head.now text).copy) _ _
    (sym (c.is_good.ensures text errors characters) ∙ c.if-is_good.true)
    (ap (λ n. not (n == 0)) c.number.ensures.value)

pub returns-else-is_good : goal.returns-else-is_good
unfolding is_memorable
returns-else-is_good c = λ text errors characters.
    none-before c.is_good.result (is_good (copy_said c.args.head.now text).copy) _
    (c.is_good.ensures text errors characters) c.if-is_good.false
