use Rattle.std.proofs.Common.{◌≡◌, ◌+◌, ◌*◌, ◌/◌, ◌<◌, ◌∙◌, ◌&&◌, ap, arith, length, map, set, sym}
use Rattle.std.proofs.Common.{subst, take}
use Rattle.std.proofs.lemmas.List.{length-map, length-set, take_all}
use Rattle.nx_code.specs.Packed.{elements_of_numbers}
use Rattle.nx_code.specs.Word.{elements_from}
use Rattle.nx_code.proofs.lemmas.Packed.{length-elements_from}
use Rattle.nx_fec.specs.air_files.AirFile.{element_digit}
use Rattle.nx_fec.specs.private.Packing.{are_elements, is_one}
use Rattle.nx_fec.proofs.lemmas.packed.Packed.{digits-spelled, packed-last, packed-more, right-last}
use Rattle.nx_fec.proofs.lemmas.packed.Packed.{right-more, wrong-digits}
use Rattle.nx_fec.proofs.air_files.packed_elements.PackedElements.read.Goals as goal
use Rattle.nx_fec.proofs.air_files.packed_elements.PackedElements.read.Goals.{then-whole-digits, else-whole-digits}

pub loop-place-preserved : goal.loop-place-preserved
loop-place-preserved c =
    let digits = c.args.digits.now in
    let numbers = c.loop-place.self-inside.numbers in
    let place = c.loop-place.place in
    let w = c.pack_64-number.result.0 in
    let below : place < length numbers =
    omega (
      arith,
      c.loop-place-test.true,
      c.loop-place.invariant.size,
      c.if-digits-gt-MAX_ELEMENTS.false,
    ) in
    let next : 64 * place + 64 ≡ 64 * (place + 1) = omega arith in
    let here = take_all 64 (elements_from 64 w) (omega (arith, length-elements_from 64 w))
    ∙ c.pack_64-number.ensures.number in
    record {
      size = length-set numbers place w ∙ c.loop-place.invariant.size;
      none = c.loop-place.invariant.none;
      elements = subst (λ n. take n (elements_of_numbers (set numbers place w))
          ≡ map is_one (take n digits)) next
          (packed-more digits numbers place w 64 below (omega arith) c.loop-place.invariant.elements
          here);
      right = subst (λ n. (c.loop-place.right && c.pack_64-number.result.1)
          ≡ are_elements (take n digits)) next
          (right-more digits (64 * place) 64 c.loop-place.right c.pack_64-number.result.1
          c.loop-place.invariant.right c.pack_64-number.ensures.right);
    }

pub returns-then-right-clause-found : goal.returns-then-right-clause-found
returns-then-right-clause-found c = λ yes.
    let digits = c.args.digits.now in
    let numbers = c.loop-place.self-inside.numbers in
    let place = length digits / 64 in
    let same : c.loop-place.place ≡ place =
    omega (arith, c.loop-place-test.false, c.loop-place.auto.place-end) in
    let before = subst (λ k. take (64 * k) (elements_of_numbers numbers)
    ≡ map is_one (take (64 * k) digits)) same c.loop-place.invariant.elements in
    let so_far = subst (λ k. c.loop-place.right ≡ are_elements (take (64 * k) digits)) same
    c.loop-place.invariant.right in
    let packed : take (length digits) (elements_of_numbers c.if-whole-digits.self-inside.numbers)
    ≡ map is_one digits = elim c.if-whole-digits.branch [
      | then-whole-digits w ↦
          ap (λ s. take (length digits) (elements_of_numbers s.numbers)) w.self-inside-is
          ∙ packed-last digits numbers place w.pack_last-number.result.0
          (omega (
            arith,
            c.if-digits-gt-MAX_ELEMENTS.false,
            c.loop-place.invariant.size,
            w.if-whole-digits.true,
          )) (omega arith) (omega arith) before w.pack_last-number.ensures.number
      | else-whole-digits w ↦
          let all : length digits ≡ 64 * place = omega (arith, w.if-whole-digits.false) in
          ap (λ s. take (length digits) (elements_of_numbers s.numbers)) w.self-inside-is
          ∙ ap (λ n. take n (elements_of_numbers numbers)) all ∙ before
          ∙ ap (map is_one) (take_all (64 * place) digits w.if-whole-digits.false)
    ] in
    let right : c.if-whole-digits.right ≡ are_elements digits = elim c.if-whole-digits.branch [
      | then-whole-digits w ↦
          w.right-is ∙ right-last digits (64 * place) c.loop-place.right w.pack_last-number.result.1
          (omega arith) so_far w.pack_last-number.ensures.right
      | else-whole-digits w ↦
          w.right-is ∙ so_far
          ∙ ap are_elements (take_all (64 * place) digits w.if-whole-digits.false)
    ] in
    let size = ap length packed ∙ length-map digits is_one in
    let some : 0 < length digits = grind arith in (
      omega (arith, size, some),
      omega (arith, size, c.if-digits-gt-MAX_ELEMENTS.false),
      digits-spelled digits (sym right ∙ c.if-right.true) ∙ ap (map element_digit) (sym packed),
    )

pub returns-else-right-clause-none : goal.returns-else-right-clause-none
returns-else-right-clause-none c = λ no bits some few is.
    let digits = c.args.digits.now in
    let place = length digits / 64 in
    let same : c.loop-place.place ≡ place =
    omega (arith, c.loop-place-test.false, c.loop-place.auto.place-end) in
    let so_far = subst (λ k. c.loop-place.right ≡ are_elements (take (64 * k) digits)) same
    c.loop-place.invariant.right in
    let right : c.if-whole-digits.right ≡ are_elements digits = elim c.if-whole-digits.branch [
      | then-whole-digits w ↦
          w.right-is ∙ right-last digits (64 * place) c.loop-place.right w.pack_last-number.result.1
          (omega arith) so_far w.pack_last-number.ensures.right
      | else-whole-digits w ↦
          w.right-is ∙ so_far
          ∙ ap are_elements (take_all (64 * place) digits w.if-whole-digits.false)
    ] in
    wrong-digits digits bits (sym right ∙ no) is
