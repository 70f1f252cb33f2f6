use Rattle.std.proofs.Common.{◌≡◌, ℕ, zero, suc, ◌+◌, ◌*◌, ◌<◌, ◌%◌, ◌==◌, List, ◌∙◌, ap, refl, get_or}
use Rattle.std.proofs.Common.{length, take, arith}
use Rattle.std.proofs.Math.Dec.{eqb-suc-zero}
use mir.Val.{bool_byte}
use Rattle.std.specs.Fmt.{decimal}
use Rattle.nx_fec.proofs.lemmas.packed.Digits.{decimal-step, below-ten-step}
use Rattle.nx_fec.proofs.air_files.lines.moment_front.Goals as goal

-- the first digit alone
first-digit : (bytes : List ℕ) (d : ℕ) → 0 < length bytes → d < 10 → get_or bytes 0 0 ≡ 48 + d
    → take 1 bytes ≡ decimal d
first-digit bytes d some small byte =
    decimal-step bytes 0 0 d some (omega arith) (omega arith) small byte (λ _. omega arith)
    (λ at. absurd (omega (arith, at))) (λ at. absurd (omega (arith, at)))
    ∙ ap decimal (let same : 10 * 0 + d ≡ d = omega arith in same)

-- one digit is counted only where it is 0
nought-alone : (value count : ℕ) → count ≡ bool_byte (value == 0) → 0 < count
    → (count ≡ 1) × (value ≡ 0)
nought-alone zero count is some = (is, refl)
nought-alone (suc n) count is some =
    absurd (omega (arith, some, is ∙ ap bool_byte (eqb-suc-zero n)))

pub returns-then-value-eq0-clause-found : goal.returns-then-value-eq0-clause-found
returns-then-value-eq0-clause-found c = λ some.
    let alone = nought-alone _ c.from.result c.from.ensures some in (
      omega arith,
      ap (λ n. take n c.args.bytes.now) alone.0
          ∙ first-digit c.args.bytes.now 0 (omega (arith, c.requires)) (omega arith)
          (omega (arith, alone.1, c.from-value.ensures, c.type_inv.bytes 0)),
    )

pub loop-count-init : goal.loop-count-init
loop-count-init c =
    let units = (c.from-value.result + 18446744073709551568) % 18446744073709551616 in
    record {
      some = omega arith;
      within = omega arith;
      fits = omega (arith, c.if-value-gt9.false);
      positive = omega (arith, c.if-value-eq0.false);
      same = first-digit c.args.bytes.now units (omega (arith, c.requires))
          (omega (arith, c.if-value-gt9.false))
          (omega (arith, c.from-value.ensures, c.if-value-gt9.false, c.type_inv.bytes 0));
    }

pub loop-count-preserved : goal.loop-count-preserved
loop-count-preserved c =
    let here = c.loop-count.invariant in
    let units = (c.from-units.result + 18446744073709551568) % 18446744073709551616 in
    let byte : units < 10 = omega (arith, c.if-units-gt9.false) in
    let digit : get_or c.args.bytes.now c.loop-count.count 0 ≡ 48 + units =
    omega (arith, c.from-units.ensures, byte, c.type_inv.bytes c.loop-count.count) in
    record {
      some = omega arith;
      within = omega (arith, c.loop-count-test.true);
      fits = below-ten-step _ _ units here.fits byte;
      positive = omega (arith, here.positive);
      same = decimal-step _ _ _ units (omega (arith, c.loop-count-test.true, c.requires))
          c.loop-count-test.true here.fits byte digit
          (λ none. absurd (omega (arith, none, here.some))) (λ _. here.positive)
          (λ _. here.same);
    }
