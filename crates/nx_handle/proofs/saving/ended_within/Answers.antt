use Rattle.std.proofs.Common.{◌∙◌, inl, inr, refl, sym, true≢false}
use Rattle.nx_handle.proofs.saving.ended_within.Goals as goal

pub returns-in_default-clause-err : goal.returns-in_default-clause-err
returns-in_default-clause-err c = inl (c.in_default.ensures, refl)

pub returns-then-not-has_no_more-clause-err : goal.returns-then-not-has_no_more-clause-err
returns-then-not-has_no_more-clause-err c =
    inr (
      (
        c.in-Some.states.now,
        c.in-Some.ensures,
        λ h. true≢false (sym (c.has_no_more.ensures.1 h) ∙ c.if-not-has_no_more.true),
      ),
      refl,
    )

pub returns-clause-ok : goal.returns-clause-ok
returns-clause-ok c = (c.in-Some.ensures, c.has_no_more.ensures.0 c.if-not-has_no_more.false)
