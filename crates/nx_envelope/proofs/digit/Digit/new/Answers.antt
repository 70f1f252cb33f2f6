use Rattle.std.proofs.Common.{refl, sym, rules}
use Rattle.nx_envelope.proofs.lemmas.headers.LettersAndDigits.{digit_of-value, digit_of-none}
use Rattle.nx_envelope.proofs.digit.Digit.new.Goals as goal

pub returns-then-is_ascii_digit-clause-digit : goal.returns-then-is_ascii_digit-clause-digit
returns-then-is_ascii_digit-clause-digit c =
    sym (digit_of-value c.args.byte _ c.if-is_ascii_digit.ensures.cases.0 refl)

pub returns-else-is_ascii_digit-clause-digit : goal.returns-else-is_ascii_digit-clause-digit
returns-else-is_ascii_digit-clause-digit c =
    sym (digit_of-none c.args.byte (λ h. let e = c.if-is_ascii_digit.ensures.cases in search rules))
