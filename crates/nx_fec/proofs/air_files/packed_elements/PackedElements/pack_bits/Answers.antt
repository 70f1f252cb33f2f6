use Rattle.std.proofs.Common.{◌≡◌, ◌∙◌, ap, arith, length, map, subst, take}
use Rattle.std.proofs.lemmas.List.{take_all}
use Rattle.nx_fec.specs.air_files.AirFile.{element_digit}
use Rattle.nx_fec.proofs.lemmas.packed.Packed.{packed-bits}
use Rattle.nx_fec.proofs.air_files.packed_elements.PackedElements.pack_bits.Goals as goal

pub returns : goal.returns
returns c =
    let bits = c.args.bits.now in
    let all : c.loop-place.place ≡ length bits =
    omega (arith, c.loop-place-test.false, c.loop-place.auto.place-end) in
    let spelled : take (length bits) c.loop-place.digits ≡ map element_digit bits =
    subst (λ n. take n c.loop-place.digits ≡ map element_digit (take n bits)) all
    c.loop-place.invariant.same
    ∙ ap (map element_digit) (take_all (length bits) bits (omega arith)) in
    packed-bits _ bits c.read.new.self c.read.result spelled c.requires c.read.ensures.found
    c.read.ensures.none c.read.ensures.unread
