use Rattle.std.proofs.Common.{◌≡◌, ◌≤◌, ◌++◌, ◌∙◌, ap, arith, drop, length, map, replicate, take}
use Rattle.std.specs.Simd.Lanes.{mask_l}
use Rattle.nx_fec.specs.private.Packing.{are_elements, is_one}
use Rattle.nx_fec.proofs.lemmas.packed.Packed.{bit-small, few-elements, few-ones-small, filled-ones}
use Rattle.nx_fec.proofs.lemmas.packed.Packed.{filled-right}
use Rattle.nx_fec.proofs.air_files.packed_elements.pack_last.Goals as goal

pub returns-then-digits-ge-FEW-clause-number : goal.returns-then-digits-ge-FEW-clause-number
returns-then-digits-ge-FEW-clause-number c =
    let digits = c.args.digits.now in
    ap (take (length digits)) c.pack_64.ensures.number
    ∙ ap (λ l. take (length digits)
    (map is_one (take 64 (l ++ drop (length digits) (replicate 64 48)))))
    c.copy_from_slice.ensures.after
    ∙ filled-ones digits c.requires

pub returns-then-digits-ge-FEW-clause-right : goal.returns-then-digits-ge-FEW-clause-right
returns-then-digits-ge-FEW-clause-right c =
    let digits = c.args.digits.now in
    c.pack_64.ensures.right
    ∙ ap (λ l. are_elements (take 64 (l ++ drop (length digits) (replicate 64 48))))
    c.copy_from_slice.ensures.after
    ∙ filled-right digits c.requires

pub overflow_mul-number : goal.overflow_mul-number
overflow_mul-number c =
    let small = few-ones-small c.args.digits.now c.loop-place.place
    (omega (arith, c.if-digits-ge-FEW.false)) in
    omega (arith, small, c.loop-place.invariant.number)

pub overflow_add-number : goal.overflow_add-number
overflow_add-number c =
    let small = few-ones-small c.args.digits.now c.loop-place.place
    (omega (arith, c.if-digits-ge-FEW.false)) in
    let bit : c.from.result ≤ 1 = grind (arith, bit-small) in
    omega (arith, small, bit, c.loop-place.invariant.number)

pub returns-clause-number : goal.returns-clause-number
returns-clause-number c =
    let digits = c.args.digits.now in
    let first : c.loop-place.place ≡ 0 = omega (arith, c.loop-place-test.false) in
    few-elements digits c.loop-place.number (omega (arith, c.if-digits-ge-FEW.false))
    (c.loop-place.invariant.number ∙ ap (λ k. mask_l (map is_one (drop k digits))) first)
