use Rattle.std.proofs.Common.{◌≡◌, true, drop, eqb, arith, refl, sym}
use Rattle.std.specs.List.{starts_with}
use Rattle.std.proofs.lemmas.List.{take_rest}
use Rattle.nx_envelope.proofs.lemmas.messages.WordsInTexts.{holds_at, holds_none}
use Rattle.nx_envelope.proofs.message.holds_word.Goals as goal

pub returns-then-starts_with : goal.returns-then-starts_with
returns-then-starts_with c =
    let rest = take_rest c.args.line.now c.loop-at.at in
    let begins : starts_with eqb (drop c.loop-at.at c.args.line.now) c.args.word.now ≡ true =
    rw (← rest) (sym c.if-starts_with.ensures.value) in
    (λ _. holds_at c.args.line.now c.args.word.now c.loop-at.at begins, λ _. refl)

pub returns : goal.returns
returns c = (
  λ h. cc,
  λ h. absurd (holds_none c.args.line.now c.args.word.now (omega arith)
      (λ k lt. c.loop-at.invariant k (omega arith)) h),
)
