use Rattle.std.proofs.Common.{◌≡◌, ℕ, ◌+◌, ◌-◌, ◌<◌, ◌∙◌, ap, arith, eqb, refl, sym, true}
use Rattle.std.proofs.lemmas.Bool.{agree_below_at, eqb-true}
use Rattle.nx_fec.specs.texts.Hexadecimal.{hex_digit, hex_digits}
use Rattle.nx_fec.proofs.texts.hexadecimal.digit.Goals as goal

small-digit : (digit : ℕ) → digit < 10 → 48 + digit ≡ hex_digit digit
unfolding hex_digits
small-digit digit h = sym (eqb-true (hex_digit digit) (48 + digit)
    (agree_below_at (λ k. eqb (hex_digit k) (48 + k)) (λ _. true) 10 digit refl h))

-- a letter, by how far it stands behind A
letter : (behind : ℕ) → behind < 6 → 65 + behind ≡ hex_digit (10 + behind)
unfolding hex_digits
letter behind h = sym (eqb-true (hex_digit (10 + behind)) (65 + behind)
    (agree_below_at (λ k. eqb (hex_digit (10 + k)) (65 + k)) (λ _. true) 6 behind refl h))

pub returns-then-digit-lt10 : goal.returns-then-digit-lt10
returns-then-digit-lt10 c = small-digit c.args.digit c.if-digit-lt10.true

pub returns-else-digit-lt10 : goal.returns-else-digit-lt10
returns-else-digit-lt10 c =
    let digit = c.args.digit in
    let back : 10 + (digit - 10) ≡ digit = omega (arith, c.if-digit-lt10.false) in
    let byte : 55 + digit ≡ 65 + (digit - 10) = omega (arith, c.if-digit-lt10.false) in
    byte ∙ letter (digit - 10) (omega (arith, c.requires, c.if-digit-lt10.false))
    ∙ ap hex_digit back
