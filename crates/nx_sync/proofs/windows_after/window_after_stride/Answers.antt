use Rattle.std.proofs.Common.{◌≡◌, ◌≤◌, ◌-◌, ◌^◌, List, Bool, false, get_or, drop, ap, subst, ◌<◌}
use Rattle.std.proofs.Common.{◌∙◌, arith}
use Rattle.nx_code.specs.Word.{number_of}
use Rattle.nx_code.proofs.lemmas.Word.{value_of-bool_byte, value_of-le}
use Rattle.nx_sync.proofs.lemmas.hunting.Strides.{number_of-front, twice-lt, number_of-none, window_after-stride}
use Rattle.nx_sync.proofs.windows_after.window_after_stride.Goals as goal

pub loop-place-preserved : goal.loop-place-preserved
loop-place-preserved c =
    let bits : List Bool = c.args.bits.now in
    let place = c.loop-place.place in
    let bit = get_or bits (place - 1) false in
    let d = number_of-front bits place (omega arith) (omega (arith, c.requires.stride)) in
    let v = value_of-bool_byte bit in
    let w = value_of-le bit in
    let s : c.from.result ≤ 1 = omega (arith, c.from.ensures, v, w) in (
      omega (arith, d, v, c.from.ensures, c.loop-place.invariant.0),
      twice-lt c.loop-place.number
          c.from.result place (omega arith) (omega arith) s c.loop-place.invariant.1,
    )

pub loop-place-init : goal.loop-place-init
loop-place-init c = (omega (arith, number_of-none c.args.bits.now c.requires.stride), omega arith)

pub returns-clause-value : goal.returns-clause-value
returns-clause-value c =
    let place : c.loop-place.place ≡ 0 = omega arith in
    let number : c.loop-place.number ≡ number_of c.args.bits.now =
    c.loop-place.invariant.0 ∙ ap (λ i. number_of (drop i c.args.bits.now)) place in
    let bound : c.loop-place.number < 2 ^ 21 =
    subst (λ i. c.loop-place.number < 2 ^ (21 - i)) place c.loop-place.invariant.1 in
    omega (
      arith,
      number,
      window_after-stride c.args.window c.args.bits.now c.requires.window
          c.requires.stride,
    )
