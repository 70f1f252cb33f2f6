use Rattle.std.proofs.Common.{inl, inr, refl}
use Rattle.nx_envelope.specs.declared.header_stage.HeaderStage.TheVariants.{Nowhere, Spaces}
use Rattle.nx_envelope.proofs.lemmas.headers.LettersAndDigits.{letter_given}
use Rattle.nx_envelope.proofs.lemmas.headers.Stages.{to_station, from_spaces, to_subject, from_station, to_tens}
use Rattle.nx_envelope.proofs.lemmas.headers.Stages.{from_subject, from_tens, from_nowhere}
use Rattle.nx_envelope.proofs.lemmas.headers.Stages.{with_space, not_spaces}
use Rattle.nx_envelope.proofs.header_stage.HeaderStage.next.Goals as goal

pub returns-then-after_start : goal.returns-then-after_start
returns-then-after_start c = λ back h e. rw c.if-byte-eq-SPACE.true
    (with_space c.args.self Spaces c.args.after_start back (rw c.if-after_start.true refl) refl
    refl refl (record { is = h; flag = e }))

pub returns-in-Spaces : goal.returns-in-Spaces
returns-in-Spaces c = λ back h e. rw c.if-byte-eq-SPACE.true
    (with_space c.args.self Spaces c.args.after_start back
    (rw (c.if-after_start.false, c.in-Spaces.is) refl) refl refl refl
    (record { is = h; flag = e }))

pub returns-in_default-2 : goal.returns-in_default-2
returns-in_default-2 c = λ back h e. rw c.if-byte-eq-SPACE.true
    (with_space c.args.self Nowhere c.args.after_start back
    (rw (c.if-after_start.false, not_spaces c.args.self c.in_default-2.not-Spaces) refl) refl refl
    refl (record { is = h; flag = e }))

pub returns-in-Some : goal.returns-in-Some
returns-in-Some c = λ back h e. to_station _ _ c.args.byte back c.if-byte-eq-SPACE.false
    (letter_given c.args.byte _ c.in-Some.ensures.in_range c.in-Some.ensures.given)
    (record { is = rw c.in-Spaces-self.is at h; flag = e })

pub returns-in-None : goal.returns-in-None
returns-in-None c = λ back h e. from_spaces _ c.args.byte back c.if-byte-eq-SPACE.false
    (letter_given c.args.byte _ c.in-None.ensures.in_range c.in-None.ensures.given)
    (record { is = rw c.in-Spaces-self.is at h; flag = e })

pub returns-in-Some-new : goal.returns-in-Some-new
returns-in-Some-new c = λ back h e. to_subject _ _ _ c.args.byte back c.if-byte-eq-SPACE.false
    (letter_given c.args.byte _ c.in-Some-new.ensures.in_range c.in-Some-new.ensures.given)
    (record { is = rw c.in-Station.is at h; flag = e })

pub returns-in-None-new : goal.returns-in-None-new
returns-in-None-new c = λ back h e. from_station _ _ c.args.byte back c.if-byte-eq-SPACE.false
    (letter_given c.args.byte _ c.in-None-new.ensures.in_range c.in-None-new.ensures.given)
    (record { is = rw c.in-Station.is at h; flag = e })

pub returns-in-Some-new-2 : goal.returns-in-Some-new-2
returns-in-Some-new-2 c =
    λ back h e. to_tens _ _ _ _ c.args.byte back c.if-byte-eq-SPACE.false
    c.in-Some-new-2.ensures.digit (record { is = rw c.in-Subject.is at h; flag = e })

pub returns-in-None-new-2 : goal.returns-in-None-new-2
returns-in-None-new-2 c =
    λ back h e. from_subject _ _ _ c.args.byte back c.if-byte-eq-SPACE.false
    c.in-None-new-2.ensures.digit (record { is = rw c.in-Subject.is at h; flag = e })

pub returns-in-Nowhere : goal.returns-in-Nowhere
returns-in-Nowhere c = λ back h e. elim c.in-Nowhere.is [
  | inl is ↦ from_nowhere _ c.args.byte back c.if-byte-eq-SPACE.false
      (record { is = rw is at h; flag = e })
  | inr (l, m, d, is) ↦ from_tens l m d _ c.args.byte back c.if-byte-eq-SPACE.false
      (record { is = rw is at h; flag = e })
]
