-- The letters and digits of a header, read one by one.
use Rattle.std.specs.Prelude.{◌≡◌, ℕ, ◌+◌, ◌*◌, ◌-◌, nat_le, refl, Bool, true, false, Option, Some, None}
use Rattle.std.proofs.Math.Nat.{add-le-add, mul-le-mul_right}
use Rattle.std.proofs.lemmas.Bool.{leb-true}
use Rattle.nx_code.specs.Reading.{capital_a, capital_z, digit_zero}
use Rattle.nx_envelope.specs.declared.digit.Digit.{Digit}
use Rattle.nx_envelope.specs.declared.identity.Identity.{Identity}
use Rattle.nx_envelope.specs.declared.letter.Letter.{Letter}

-- the letter of a byte, and the digit of one
unfoldable pub letter_from : (b : ℕ) (low high : Bool) → nat_le capital_a b ≡ low
    → nat_le b capital_z ≡ high → Option Letter
letter_from b true true l h =
    Some (record { byte = b; in_range = (leb-true capital_a b l, leb-true b capital_z h) })
letter_from b true false l h = None
letter_from b false high l h = None

unfoldable pub letter_of : ℕ → Option Letter
letter_of b = letter_from b (nat_le capital_a b) (nat_le b capital_z) refl refl

unfoldable pub digit_from : (b : ℕ) (low high : Bool) → nat_le digit_zero b ≡ low
    → nat_le (b - digit_zero) 9 ≡ high → Option Digit
digit_from b true true l h =
    Some (record { value = b - digit_zero; below_ten = leb-true (b - digit_zero) 9 h })
digit_from b true false l h = None
digit_from b false high l h = None

unfoldable pub digit_of : ℕ → Option Digit
digit_of b = digit_from b (nat_le digit_zero b) (nat_le (b - digit_zero) 9) refl refl

-- two things that are both there
abbrev pub both : {A B : Type 0} → Option A → Option B → Option (A × B)
both None b = None
both (Some a) None = None
both (Some a) (Some b) = Some (a, b)

-- the identity of two letters and two digits
abbrev pub identity_of : Letter → Letter → Digit → Digit → Identity
identity_of b1 b2 tens units = record {
  b1 = b1;
  b2 = b2;
  number = tens.value * 10 + units.value;
  two_digits = add-le-add (mul-le-mul_right 10 tens.below_ten) units.below_ten;
}

abbrev pub identity_with : Option (((Letter × Letter) × Digit) × Digit) → Option Identity
identity_with None = None
identity_with (Some found) = Some (identity_of found.0.0.0 found.0.0.1 found.0.1 found.1)
