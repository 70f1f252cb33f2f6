-- Identities that name one message are equal.
use Rattle.std.proofs.Common.{◌≡◌, true, refl, ap, ◌∙◌, subst}
use Rattle.std.proofs.lemmas.Bool.{and_parts, eq-eqb, eqb-true, and_from}
use Rattle.nx_envelope.specs.Identity.{same_identity}
use Rattle.nx_envelope.specs.declared.identity.Identity.{Identity}
use Rattle.nx_envelope.specs.declared.letter.Letter.{Letter}
use Rattle.nx_envelope.proofs.lemmas.headers.LettersAndDigits.{same_letter, identity_at, same_identity_at}

of_parts : (a b : Identity) → a.b1 ≡ b.b1 → a.b2 ≡ b.b2 → a.number ≡ b.number → a ≡ b
of_parts a b station subject number =
    ap (λ (l : Letter). identity_at l a.b2 a.number a.two_digits) station
    ∙ ap (λ (l : Letter). identity_at b.b1 l a.number a.two_digits) subject
    ∙ same_identity_at b.b1 b.b2 a.number b.number number a.two_digits b.two_digits

pub same_from_bytes : (a b : Identity) → a.b1.byte ≡ b.b1.byte → a.b2.byte ≡ b.b2.byte
    → a.number ≡ b.number → a ≡ b
same_from_bytes a b station subject number =
    of_parts a b (same_letter a.b1 b.b1 station) (same_letter a.b2 b.b2 subject) number

pub same_identity-true : (a b : Identity) → same_identity a b ≡ true → a ≡ b
same_identity-true a b e =
    let parts = and_parts _ _ e in
    let letters = and_parts _ _ parts.0 in
    same_from_bytes a b (eqb-true a.b1.byte b.b1.byte letters.0)
    (eqb-true a.b2.byte b.b2.byte letters.1) (eqb-true a.number b.number parts.1)

pub same_itself : (a : Identity) → same_identity a a ≡ true
same_itself a =
    and_from _ _ (and_from _ _ (eq-eqb a.b1.byte a.b1.byte refl) (eq-eqb a.b2.byte a.b2.byte refl))
    (eq-eqb a.number a.number refl)

pub same_identity_both : (a b : Identity)
    → (same_identity a b ≡ true → a ≡ b) × (a ≡ b → same_identity a b ≡ true)
same_identity_both a b = (
  same_identity-true a b,
  λ e. subst (λ (it : Identity). same_identity a it ≡ true) e (same_itself a),
)
