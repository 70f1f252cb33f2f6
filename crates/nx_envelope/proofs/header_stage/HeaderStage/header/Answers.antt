use Rattle.std.proofs.Common.{Some, ap, sym, refl, ◌∙◌}
use Rattle.nx_envelope.proofs.lemmas.headers.LettersAndDigits.{identity_is}
use Rattle.nx_envelope.proofs.lemmas.headers.Stages.{header_is, not_tens}
use Rattle.nx_envelope.proofs.header_stage.HeaderStage.header.Goals as goal

pub returns-in_default : goal.returns-in_default
returns-in_default c = λ back h. sym
    (header_is c.args.self c.args.byte back h
    ∙ rw (not_tens c.args.self c.in_default.not-Tens) refl)

pub returns-in_err-units : goal.returns-in_err-units
returns-in_err-units c = λ back h. rw c.from_residual.ensures
    (sym (header_is c.args.self c.args.byte back h
    ∙ rw (c.in-Tens.is, ← c.in_err-units.ensures.digit) refl))

pub returns : goal.returns
returns c = λ back h. sym
    (header_is c.args.self c.args.byte back h
    ∙ rw (c.in-Tens.is, ← c.in_ok-units.ensures.digit) (ap Some (sym (identity_is _ _ _ _ _))))
