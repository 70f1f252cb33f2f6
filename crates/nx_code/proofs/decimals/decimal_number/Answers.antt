use Rattle.std.proofs.Common.{◌≡◌, ℕ, Result, Ok, Err, ap, subst, sym, arith, ◌∙◌}
use Rattle.std.specs.Fmt.{decimal}
use Rattle.std.specs.Str.{IsUtf8}
use Rattle.std.proofs.lemmas.Bool.{true≢false}
use Rattle.std.proofs.lemmas.Bool.Decides.{Decides-eqb}
use Rattle.std.proofs.lemmas.Slice.Eq.{slice_eq-Decides}
use Rattle.std.proofs.lemmas.Str.{IsUtf8-from_ascii}
use Rattle.std.proofs.lemmas.Fmt.{IsAscii-decimal, parse-decimal}
use Rattle.nx_code.proofs.decimals.decimal_number.Goals as goal
use Rattle.nx_code.proofs.decimals.decimal_number.Goals.{
  else-number-most-via-then-number-most+else-eq,
}
use Rattle.nx_code.proofs.decimals.decimal_number.Goals.{
  else-number-most-via-else-number-most,
}

same_ok : {E : Type 0} (m n : ℕ) → ◌≡◌ {A = Result ℕ E} (Ok m) (Ok n) → m ≡ n
same_ok m n e = cc

pub returns-in_default-clause-none : goal.returns-in_default-clause-none
returns-in_default-clause-none c = λ number small e.
    c.in_default.ensures.cases.0
    (subst IsUtf8 (sym e) (IsUtf8-from_ascii (decimal number)
    (IsAscii-decimal number (omega (arith, c.ranges.most)))))

pub returns-in_default-parse-clause-none : goal.returns-in_default-parse-clause-none
returns-in_default-parse-clause-none c = λ number small e.
    let text = c.in-Ok.ensures.cases.0 ∙ e in
    let read = parse-decimal 64 number c.in-Ok.text.now (Err c.in_default-parse.field-0)
    (omega (arith, c.ranges.most)) (omega (arith, c.ranges.most)) text
    c.in_default-parse.ensures.value.0 in
    cc

pub returns-else-number-most-clause-none : goal.returns-else-number-most-clause-none
returns-else-number-most-clause-none c = λ number small e.
    let text = c.in-Ok.ensures.cases.0 ∙ e in
    let same : c.in-Ok-parse.number ≡ number =
    same_ok c.in-Ok-parse.number number
    (sym c.in-Ok-parse.is ∙ parse-decimal 64 number c.in-Ok.text.now c.parse.result
    (omega (arith, c.ranges.most)) (omega (arith, c.ranges.most)) text c.parse.ensures.value.0) in
    elim c.else-number-most.branch [
      | else-number-most-via-then-number-most+else-eq w ↦
          let equal = (slice_eq-Decides Decides-eqb _ _ _ w.eq.ensures).1
          (w.as_bytes.ensures.value ∙ w.format.ensures.text ∙ ap decimal same ∙ sym e) in
          absurd (true≢false (sym equal ∙ w.if-eq.false))
      | else-number-most-via-else-number-most w ↦
          absurd (omega (arith, w.if-number-most.false))
    ]
