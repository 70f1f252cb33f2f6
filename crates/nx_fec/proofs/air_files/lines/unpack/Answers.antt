use Rattle.std.proofs.Common.{◌≡◌, ◌∙◌, ◌++◌, ap, arith, length, map, subst, take}
use Rattle.std.proofs.lemmas.List.{take_all}
use Rattle.nx_fec.specs.private.Packing.{is_one}
use Rattle.nx_fec.proofs.air_files.lines.unpack.Goals as goal

pub returns : goal.returns
returns c =
    let digits = c.args.digits.now in
    let found = take (length digits) c.loop-place.elements in
    let all : c.loop-place.place ≡ length digits =
    omega (arith, c.loop-place-test.false, c.loop-place.auto.place-end) in
    let same : found ≡ map is_one digits =
    subst (λ n. take n c.loop-place.elements ≡ map is_one (take n digits)) all
    c.loop-place.invariant.same
    ∙ ap (map is_one) (take_all (length digits) digits (omega arith)) in
    (rw c.unwrap.ensures at c.try_extend_from_slice.ensures.ok)
    ∙ ap (λ l. l ++ found) c.clear.ensures ∙ same
