use Rattle.std.proofs.Common.{◌≡◌, ◌∙◌, arith, inl, inr, refl, subst, sym, true≢false}
use Rattle.std.proofs.lemmas.Bool.{cases_lt}
use Rattle.nx_handle.specs.Saving.{RefusesLetter}
use Rattle.nx_handle.proofs.lemmas.Saving.{letter-of}
use Rattle.nx_handle.proofs.saving.refuses_none.Goals as goal

pub loop-byte-init : goal.loop-byte-init
loop-byte-init c = record {
  none = λ letter le lt r. absurd (omega (arith, le, lt));
  only = λ lt. absurd (omega (arith, lt));
}

pub loop-byte-preserved : goal.loop-byte-preserved
loop-byte-preserved c = record {
  none = λ letter le lt r. elim (cases_lt letter c.loop-byte.byte) [
    | inl less ↦ c.loop-byte.invariant.none letter le less r
    | inr more ↦
        let same : letter ≡ c.in-Some.letter.byte =
        omega (arith, lt, more, c.in-Some.ensures.given) in
        absurd (true≢false (sym (c.refuses_letter.ensures.refused.1
        (subst (RefusesLetter c.args.selection.now) same r)) ∙ c.if-refuses_letter.false))
  ];
  only = λ lt. c.refuses_letter.ensures.refusable;
}

pub returns : goal.returns
returns c = (
  λ t letter r.
      let is = letter-of c.args.selection.now letter
      (c.loop-byte.invariant.only (omega (arith, c.loop-byte-test.false))) r in
      c.loop-byte.invariant.none letter is.0 (omega (arith, is.1, c.loop-byte-test.false)) r,
  λ h. refl,
)
