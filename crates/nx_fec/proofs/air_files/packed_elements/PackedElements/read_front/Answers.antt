use Rattle.std.proofs.Common.{◌≡◌, ◌+◌, ◌*◌, ◌∙◌, sym, map, set, take, true, arith, subst}
use Rattle.std.proofs.lemmas.List.{length-set}
use Rattle.nx_code.specs.Packed.{elements_of_numbers}
use Rattle.nx_fec.specs.private.Packing.{are_elements, is_one}
use Rattle.nx_fec.proofs.lemmas.packed.Packed.{packed-more, right-more}
use Rattle.nx_fec.proofs.air_files.packed_elements.PackedElements.read_front.Goals as goal

pub returns-then-count-lt-PACKED-clause-elements : goal.returns-then-count-lt-PACKED-clause-elements
returns-then-count-lt-PACKED-clause-elements c =
    packed-more c.args.bytes.now c.loop-place.self-inside.numbers c.loop-place.place
    c.pack_front-number.result.0 c.pack_front-number.result.1
    (omega (arith, c.loop-place-test.true, c.loop-place.invariant.size))
    c.pack_front-number.ensures.count c.loop-place.invariant.elements
    c.pack_front-number.ensures.number

pub returns-then-count-lt-PACKED-clause-right : goal.returns-then-count-lt-PACKED-clause-right
returns-then-count-lt-PACKED-clause-right c =
    sym (right-more c.args.bytes.now (64 * c.loop-place.place) c.pack_front-number.result.1 true
    true (sym c.loop-place.invariant.right) (sym c.pack_front-number.ensures.right))

pub loop-place-preserved : goal.loop-place-preserved
loop-place-preserved c =
    let bytes = c.args.bytes.now in
    let numbers = c.loop-place.self-inside.numbers in
    let place = c.loop-place.place in
    let w = c.pack_front-number.result.0 in
    let full : c.pack_front-number.result.1 ≡ 64 =
    omega (arith, c.if-count-lt-PACKED.false, c.pack_front-number.ensures.count) in
    let next : 64 * place + c.pack_front-number.result.1 ≡ 64 * (place + 1) = omega (arith, full) in
    record {
      size = length-set numbers place w ∙ c.loop-place.invariant.size;
      elements = subst (λ n. take n (elements_of_numbers (set numbers place w))
          ≡ map is_one (take n bytes)) next
          (packed-more bytes numbers place w c.pack_front-number.result.1
          (omega (arith, c.loop-place-test.true, c.loop-place.invariant.size))
          c.pack_front-number.ensures.count c.loop-place.invariant.elements
          c.pack_front-number.ensures.number);
      right = subst (λ n. are_elements (take n bytes) ≡ true) next
          (sym (right-more bytes (64 * place) c.pack_front-number.result.1 true true
          (sym c.loop-place.invariant.right) (sym c.pack_front-number.ensures.right)));
    }

pub returns-clause-elements : goal.returns-clause-elements
returns-clause-elements c =
    let all : 64 * c.loop-place.place ≡ 512 =
    omega (arith, c.loop-place-test.false, c.loop-place.auto.place-end) in
    subst (λ n. take n (elements_of_numbers c.loop-place.self-inside.numbers)
    ≡ map is_one (take n c.args.bytes.now)) all c.loop-place.invariant.elements

pub returns-clause-right : goal.returns-clause-right
returns-clause-right c =
    let all : 64 * c.loop-place.place ≡ 512 =
    omega (arith, c.loop-place-test.false, c.loop-place.auto.place-end) in
    subst (λ n. are_elements (take n c.args.bytes.now) ≡ true) all c.loop-place.invariant.right
