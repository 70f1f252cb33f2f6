use Rattle.std.proofs.Common.{◌≡◌, ◌-◌, [], ◌∷◌, arith, rules, sym}
use Rattle.std.proofs.lemmas.Bool.{true≢false}
use Rattle.std.proofs.lemmas.Grind.{common_steps}
use Rattle.nx_envelope.specs.Copies.{errors_of}
use Rattle.nx_log.proofs.lemmas.beginnings.Texts.{next_read, text_breaks, text_to_come}
use Rattle.nx_log.proofs.entries.entry.text_lack.Goals as goal

pub returns-in_default : goal.returns-in_default
returns-in_default c =
    text_to_come _ _ _ _ _ _ c.loop-left.invariant (omega (arith, c.loop-left-test.true))
    (first_of (search rules, grind (arith, common_steps)))

pub returns-then-not-fits_text : goal.returns-then-not-fits_text
returns-then-not-fits_text c =
    text_breaks _ _ _ _ _ _ c.loop-left.invariant c.in-Some.byte.now c.in-Some.behind.now
    (omega (arith, c.loop-left-test.true))
    (first_of (search rules, grind (arith, common_steps)))
    (λ letter few fits. true≢false (sym (c.if-not-fits_text.ensures.1 (letter, few, fits))))

pub loop-left-preserved : goal.loop-left-preserved
loop-left-preserved c =
    let some = c.loop-left-test.true in
    let ok = c.fits_text.ensures.0 c.if-not-fits_text.false in
    let star : c.from-lacking.result ≡ errors_of (c.in-Some.byte.now ∷ []) =
    first_of (grind arith, search rules) in
    next_read _ _ _ _ _ _ c.loop-left.invariant c.in-Some.byte.now c.in-Some.behind.now
    (c.loop-left.lacking - c.from-lacking.result) (c.loop-left.left - 1)
    (first_of (search rules, grind (arith, common_steps)))
    ok.0 (omega (arith, ok.1, star)) (omega (arith, some)) (omega (arith, ok.1, ok.2, star, some))
