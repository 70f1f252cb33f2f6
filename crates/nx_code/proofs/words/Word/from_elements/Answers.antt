use Rattle.std.proofs.Common.{◌≡◌, ◌≤◌, ◌-◌, false, get_or, length, rules, arith}
use Rattle.nx_code.proofs.lemmas.Word.{byte-fits, byte-more, gathers, gathers-lt, spread_of-drop}
use Rattle.nx_code.proofs.lemmas.Word.{spread_of-drop_all, value_of-bool_byte, value_of-le}
use Rattle.nx_code.proofs.words.Word.from_elements.Goals as goal

pub loop-place-preserved : goal.loop-place-preserved
loop-place-preserved c =
    let place = c.loop-place.place in
    let bit = get_or c.args.bits (place - 1) false in
    let e : length c.args.bits ≡ 7 = omega arith in
    let d = spread_of-drop c.args.bits place (omega arith) (omega arith) in
    let v = value_of-bool_byte bit in
    let w = value_of-le bit in
    let s : c.from.result ≤ 1 = omega (arith, c.from.ensures, v, w) in (
      omega (arith, d, v, c.from.ensures, c.loop-place.invariant.0),
      byte-more c.loop-place.spread
          c.from.result place (omega arith) (omega arith) s c.loop-place.invariant.1,
    )

pub loop-place-init : goal.loop-place-init
loop-place-init c = (omega (arith, spread_of-drop_all c.args.bits (omega arith)), omega arith)

pub overflow_mul-spread : goal.overflow_mul-spread
overflow_mul-spread c =
    let fits = byte-fits c.loop-place.spread c.loop-place.place (omega arith)
    c.loop-place.invariant.1 in
    search rules

pub returns : goal.returns
returns c = gathers c.args.bits c.loop-place.spread c.loop-place.place (omega arith) (omega arith)
    c.loop-place.invariant.0

pub invariant_of-result : goal.invariant_of-result
invariant_of-result c = gathers-lt c.args.bits c.loop-place.spread c.loop-place.place (omega arith)
    (omega arith) c.loop-place.invariant.0
