-- What the head and the end of a message print.
use Rattle.std.proofs.Common.{◌≡◌, ℕ, ◌+◌, ◌-◌, ◌<◌, ◌≤◌, Bool, true, false, ◌&&◌, eqb, ltb, Option}
use Rattle.std.proofs.Common.{Some, None, refl, sym, ap, subst, arith}
use Rattle.std.proofs.lemmas.Bool.{agree_below_at, eqb-true, ltb-true, and_parts}
use Rattle.nx_code.specs.Table.{table, row_of}
use Rattle.nx_code.specs.Reading.{character_of}
use Rattle.nx_code.specs.declared.shifts.Shift.TheVariants.{Letters, Figures}
use Rattle.nx_station.specs.Broadcast.{digit_combination}
use Rattle.nx_station.specs.Broadcast.{letter_combination}

-- this is printed
abbrev is_printed : Option ℕ → ℕ → Bool
is_printed None c = false
is_printed (Some d) c = eqb d c

is_printed-Some : (o : Option ℕ) (c : ℕ) → is_printed o c ≡ true → o ≡ Some c
is_printed-Some None c h = cc
is_printed-Some (Some d) c h = ap Some (eqb-true d c h)

pub letter_combination-prints : (byte : ℕ) → 65 ≤ byte → byte ≤ 90
    → character_of (letter_combination byte) Letters ≡ Some byte
unfolding character_of row_of table
letter_combination-prints byte low high =
    let at : byte - 65 < 26 = omega arith in
    let number : byte - 64 ≡ (byte - 65) + 1 = omega arith in
    let same : byte - 65 + 65 ≡ byte = omega arith in
    let here = agree_below_at (λ i. is_printed (character_of (i + 1) Letters) (i + 65)) (λ _. true)
    26 (byte - 65) refl at in
    is_printed-Some (character_of (byte - 64) Letters) byte
    (subst (λ n. is_printed (character_of n Letters) byte ≡ true) (sym number)
    (subst (λ b. is_printed (character_of ((byte - 65) + 1) Letters) b ≡ true) same here))

pub digit_combination-prints : (digit : ℕ) → digit < 10
    → character_of (digit_combination digit) Figures ≡ Some (48 + digit)
unfolding character_of row_of table
digit_combination-prints digit h =
    is_printed-Some (character_of (digit_combination digit) Figures) (48 + digit)
    (agree_below_at (λ i. is_printed (character_of (digit_combination i) Figures) (48 + i))
    (λ _. true) 10 digit refl h)

pub digit_combination-range : (digit : ℕ) → digit < 10
    → (1 ≤ digit_combination digit) × (digit_combination digit ≤ 26)
digit_combination-range digit h =
    let t = agree_below_at (λ i. ltb 0 (digit_combination i) && ltb (digit_combination i) 27)
    (λ _. true) 10 digit refl h in
    let p = and_parts (ltb 0 (digit_combination digit)) (ltb (digit_combination digit) 27) t in (
      omega (arith, ltb-true 0 (digit_combination digit) p.0),
      omega
          (arith, ltb-true (digit_combination digit) 27 p.1),
    )
