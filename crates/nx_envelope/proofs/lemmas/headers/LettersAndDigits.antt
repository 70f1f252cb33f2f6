-- Letters, digits and the header that they spell, read from the back of a text.
use Rattle.std.proofs.Common.{◌≡◌, ℕ, ◌/◌, ◌%◌, min, ◌↔◌, ◌∙◌, ◌-◌, ◌≤◌, ◌==◌, ◌&&◌, ◌||◌}
use Rattle.std.proofs.Common.{if◌then◌else◌, List, ◌∷◌, nat_le, ◌+◌, ◌*◌, inl, inr, Bool, true}
use Rattle.std.proofs.Common.{false, Option, Some, None, refl, sym, subst, ap, arith}
use Rattle.std.specs.Option.{IsSome, IfSome}
use Rattle.std.proofs.Math.Nat.{min-le_left}
use Rattle.std.proofs.lemmas.Bool.Decides.{leb_tells, nat_tests}
use Rattle.std.proofs.Props.{props}
use Rattle.nx_envelope.specs.Header.{start_marker}
use Rattle.nx_envelope.specs.private.Reading.{nearest_identity, nearest_letter}
use Rattle.nx_envelope.specs.Identity.{identity_bytes}
use Rattle.nx_envelope.specs.private.Letters.{letter_from, letter_of, digit_from, digit_of, both}
use Rattle.nx_envelope.specs.private.Letters.{identity_of, identity_with}
use Rattle.nx_envelope.specs.private.Backward.{ends_in, spaces_back, station_back, subject_back}
use Rattle.nx_envelope.specs.private.Backward.{tens_back, header_back}
use Rattle.nx_envelope.specs.private.DigitBytes.{IsDigit}
use Rattle.nx_code.specs.Reading.{IsCapital}
use Rattle.nx_envelope.specs.private.HeaderStage.{IsStageOf, is_spaces, station_in, subject_in, tens_in}
use Rattle.nx_envelope.specs.declared.digit.Digit.{Digit}
use Rattle.nx_envelope.specs.declared.identity.Identity.{Identity}
use Rattle.nx_envelope.specs.declared.letter.Letter.{Letter}
use Rattle.nx_envelope.specs.declared.header_stage.HeaderStage.{HeaderStage}

abbrev pub letter_at : (x : ℕ) → IsCapital x → Letter
letter_at x p = record { byte = x; in_range = p }

abbrev pub digit_at : (x : ℕ) → x ≤ 9 → Digit
digit_at x p = record { value = x; below_ten = p }

same_letter_at : (x y : ℕ) (e : x ≡ y) (p : IsCapital x) (q : IsCapital y)
    → letter_at x p ≡ letter_at y q
same_letter_at x y e =
    let alike : IsProp (IsCapital x) = hlevel props in
    let P : ℕ → Type 0 = λ (z : ℕ). (p : IsCapital x) (q : IsCapital z)
    → letter_at x p ≡ letter_at z q in
    subst P e (λ p q. ap (letter_at x) (alike p q))

pub same_letter : (a b : Letter) → a.byte ≡ b.byte → a ≡ b
same_letter a b e = same_letter_at a.byte b.byte e a.in_range b.in_range

same_digit_at : (x y : ℕ) (e : x ≡ y) (p : x ≤ 9) (q : y ≤ 9) → digit_at x p ≡ digit_at y q
same_digit_at x y e =
    let alike : IsProp (x ≤ 9) = hlevel props in
    let P : ℕ → Type 0 = λ (z : ℕ). (p : x ≤ 9) (q : z ≤ 9) → digit_at x p ≡ digit_at z q in
    subst P e (λ p q. ap (digit_at x) (alike p q))

pub same_digit : (a b : Digit) → a.value ≡ b.value → a ≡ b
same_digit a b e = same_digit_at a.value b.value e a.below_ten b.below_ten

letter_from-byte : (l : Letter) (low high : Bool) (p : nat_le 65 l.byte ≡ low)
    (q : nat_le l.byte 90 ≡ high) → letter_from l.byte low high p q ≡ Some l
unfolding letter_from
letter_from-byte l true true p q = ap Some (same_letter _ l refl)
letter_from-byte l true false p q = absurd (grind (arith, nat_tests))
letter_from-byte l false high p q = absurd (grind (arith, nat_tests))

pub letter_of-byte : (l : Letter) → letter_of l.byte ≡ Some l
unfolding letter_of
letter_of-byte l = letter_from-byte l _ _ refl refl

-- the letter nearest to a letter is that letter
nearest_letter-is : (l : Letter) → nearest_letter l.byte ≡ l
nearest_letter-is l = same_letter (nearest_letter l.byte) l
    (omega (arith, l.in_range.0, l.in_range.1))

letter_from-none : (b : ℕ) (low high : Bool) (p : nat_le 65 b ≡ low) (q : nat_le b 90 ≡ high)
    → ¬ IsCapital b → letter_from b low high p q ≡ None
unfolding letter_from
letter_from-none b true true p q not_so = absurd (not_so (grind (arith, nat_tests)))
letter_from-none b true false p q not_so = refl
letter_from-none b false high p q not_so = refl

pub letter_of-none : (b : ℕ) → ¬ IsCapital b → letter_of b ≡ None
unfolding letter_of
letter_of-none b not_so = letter_from-none b _ _ refl refl not_so

-- what is made of a byte that may be a letter
pub letter_given : (b : ℕ) (o : Option Letter) → (IsSome o ↔ IsCapital b)
    → IfSome o (λ l. l.byte ≡ b) → o ≡ letter_of b
letter_given b None in_range given = sym (letter_of-none b (λ h. let e = in_range.1 h in cc))
letter_given b (Some l) in_range given = sym (letter_of-byte l) ∙ ap letter_of given

digit_from-value : (b : ℕ) (d : Digit) (low high : Bool) (p : nat_le 48 b ≡ low)
    (q : nat_le (b - 48) 9 ≡ high) → 48 ≤ b → d.value ≡ b - 48 → digit_from b low high p q ≡ Some d
unfolding digit_from
digit_from-value b d true true p q at e = ap Some (same_digit _ d (sym e))
digit_from-value b d true false p q at e = absurd (grind (arith, nat_tests, d.below_ten))
digit_from-value b d false high p q at e = absurd (grind (arith, nat_tests))

pub digit_of-value : (b : ℕ) (d : Digit) → 48 ≤ b → d.value ≡ b - 48 → digit_of b ≡ Some d
unfolding digit_of
digit_of-value b d at e = digit_from-value b d _ _ refl refl at e

digit_from-none : (b : ℕ) (low high : Bool) (p : nat_le 48 b ≡ low) (q : nat_le (b - 48) 9 ≡ high)
    → ¬ IsDigit b → digit_from b low high p q ≡ None
unfolding digit_from
digit_from-none b true true p q not_so = absurd (not_so (grind (arith, nat_tests)))
digit_from-none b true false p q not_so = refl
digit_from-none b false high p q not_so = refl

pub digit_of-none : (b : ℕ) → ¬ IsDigit b → digit_of b ≡ None
unfolding digit_of
digit_of-none b not_so = digit_from-none b _ _ refl refl not_so

-- what the back of a text is one byte later, at the stage that it stood at
pub record StageParts (stage : HeaderStage) (start : Bool) (b : ℕ) (back : List ℕ) : Type 0 where
  pub spaces : spaces_back (b ∷ back) ≡ ((b == 32) && (start || is_spaces stage))
  pub station : station_back (b ∷ back) ≡ (if is_spaces stage then letter_of b else None)
  pub subject : subject_back (b ∷ back) ≡ both (station_in stage) (letter_of b)
  pub tens : tens_back (b ∷ back) ≡ both (subject_in stage) (digit_of b)
  pub header : header_back (b ∷ back) ≡ identity_with (both (tens_in stage) (digit_of b))

pub stage_parts : (stage : HeaderStage) (start : Bool) (b : ℕ) (back : List ℕ)
    → IsStageOf stage back
    → start ≡ ends_in start_marker back → StageParts stage start b back
unfolding spaces_back station_back subject_back tens_back header_back
stage_parts stage start b back h e = record {
  spaces = rw (← e, h.spaces) refl;
  station = rw h.spaces refl;
  subject = rw h.station refl;
  tens = rw h.subject refl;
  header = rw h.tens refl;
}

pub both-none : {A B : Type 0} (o : Option A) → both {B = B} o None ≡ None
both-none None = refl
both-none (Some a) = refl

pub letter_of-space : letter_of 32 ≡ None
letter_of-space = letter_of-none 32 (λ h. absurd (omega arith))

pub digit_of-space : digit_of 32 ≡ None
digit_of-space = digit_of-none 32 (λ h. absurd (omega arith))

-- an identity, and what it is made of
abbrev pub identity_at : Letter → Letter → (n : ℕ) → n ≤ 99 → Identity
identity_at l m n p = record { b1 = l; b2 = m; number = n; two_digits = p }

pub same_identity_at : (l m : Letter) (x y : ℕ) (e : x ≡ y) (p : x ≤ 99) (q : y ≤ 99)
    → identity_at l m x p ≡ identity_at l m y q
same_identity_at l m x y e =
    let alike : IsProp (x ≤ 99) = hlevel props in
    let P : ℕ → Type 0 = λ (z : ℕ). (p : x ≤ 99) (q : z ≤ 99)
    → identity_at l m x p ≡ identity_at l m z q in
    subst P e (λ p q. ap (identity_at l m x) (alike p q))

-- the identity nearest to the bytes of one is that one
pub nearest_identity-is : (i : Identity) → nearest_identity (identity_bytes i) ≡ i
nearest_identity-is i =
    let n : ℕ = min 99 ((48 + i.number / 10 - 48) * 10 + (48 + i.number % 10 - 48)) in
    let small : n ≤ 99 = min-le_left 99 _ in
    let number : n ≡ i.number = omega (arith, i.two_digits) in
    ap (λ l. identity_at l (nearest_letter i.b2.byte) n small) (nearest_letter-is i.b1)
    ∙ ap (λ m. identity_at i.b1 m n small) (nearest_letter-is i.b2)
    ∙ same_identity_at i.b1 i.b2 n i.number number small i.two_digits

pub identity_is : (l m : Letter) (t u : Digit) (p : t.value * 10 + u.value ≤ 99)
    → identity_at l m (t.value * 10 + u.value) p ≡ identity_of l m t u
identity_is l m t u p = same_identity_at l m _ _ refl p _

pub both_first : {A B : Type 0} (o : Option A) (p : Option B) (q : A × B) → both o p ≡ Some q
    → o ≡ Some q.0
both_first None p q e = absurd (let contra : None ≡ Some q = e in cc)
both_first (Some a) None q e = absurd (let contra : None ≡ Some q = e in cc)
both_first (Some a) (Some b) q e = let same : (a, b) ≡ q = cc in ap (λ z. Some z.0) same

pub both_second : {A B : Type 0} (o : Option A) (p : Option B) (q : A × B) → both o p ≡ Some q
    → p ≡ Some q.1
both_second None p q e = absurd (let contra : None ≡ Some q = e in cc)
both_second (Some a) None q e = absurd (let contra : None ≡ Some q = e in cc)
both_second (Some a) (Some b) q e = let same : (a, b) ≡ q = cc in ap (λ z. Some z.1) same

pub record IsWith (o : Option (((Letter × Letter) × Digit) × Digit)) : Type 0 where
  pub found : ((Letter × Letter) × Digit) × Digit
  pub is : o ≡ Some found

pub identity_some : (o : Option (((Letter × Letter) × Digit) × Digit)) (i : Identity)
    → identity_with o ≡ Some i → IsWith o
identity_some None i e = absurd (cc)
identity_some (Some found) i e = record { found = found; is = refl }

-- the digit of a byte says that it is one
pub digit_of-some : (b : ℕ) (d : Digit) → digit_of b ≡ Some d → IsDigit b
digit_of-some b d e =
    elim (leb_tells 48 b) [
      | inl p ↦ elim (leb_tells b 57) [
        | inl q ↦ (p.1, q.1)
        | inr q ↦ absurd (let none = digit_of-none b (λ h. absurd (omega (arith, q.1))) in cc)
      ]
      | inr p ↦ absurd (let none = digit_of-none b (λ h. absurd (omega (arith, p.1))) in cc)
    ]
