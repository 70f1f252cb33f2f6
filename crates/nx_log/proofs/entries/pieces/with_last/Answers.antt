use Rattle.std.proofs.Common.{◌+◌, [], ◌∷◌, ◌++◌, ap, ◌∙◌}
use Rattle.nx_log.specs.private.Stages.{written}
use Rattle.nx_log.proofs.lemmas.beginnings.Counts.{first_digit, next_digit}
use Rattle.nx_log.proofs.entries.pieces.with_last.Goals as goal

pub returns-in-None-clause-digits : goal.returns-in-None-clause-digits
returns-in-None-clause-digits c =
    ap (λ o. written o ++ (48 + c.args.digit) ∷ []) c.in-None.is
    ∙ first_digit c.args.digit c.requires.digit

pub returns-else-front-eq0-clause-digits : goal.returns-else-front-eq0-clause-digits
returns-else-front-eq0-clause-digits c =
    ap (λ o. written o ++ (48 + c.args.digit) ∷ []) c.in-Some.is
    ∙ next_digit c.in-Some.front c.args.digit c.if-front-eq0.false
    (rw c.in-Some.is at c.requires.number) c.requires.digit
