use Rattle.std.proofs.Common.{arith, bit_or, w64}
use Rattle.std.proofs.lemmas.Nat.{or_lt}
use Rattle.std.proofs.lemmas.Nat.Bits.{bit_at-trailing_ones}
use Rattle.nx_fec.proofs.lemmas.packed.PackedFronts.{all-marks, digits-front, ones-front}
use Rattle.nx_fec.proofs.air_files.packed_elements.pack_front.Goals as goal

pub returns-then-digits-clause-number : goal.returns-then-digits-clause-number
returns-then-digits-clause-number c =
    ones-front c.args.bytes.now 64 _ 64 c.requires (omega arith) c.places_of-ones.ensures
    (omega arith)

pub returns-then-digits-clause-right : goal.returns-then-digits-clause-right
returns-then-digits-clause-right c =
    digits-front c.args.bytes.now 64 _ _ 64 c.requires c.places_of-ones.ensures
    c.places_of.ensures (omega arith) (all-marks _ c.if-digits.true)

pub returns-clause-number : goal.returns-clause-number
returns-clause-number c =
    let marks = bit_or c.places_of-ones.result c.places_of.result in
    let fits = or_lt 64 _ _ c.places_of-ones.type_inv c.places_of.type_inv in
    let h = bit_at-trailing_ones w64 marks (omega (arith, c.if-digits.false, fits)) in
    ones-front c.args.bytes.now 64 _ c.trailing_ones.result c.requires (omega arith)
    c.places_of-ones.ensures (omega (arith, c.trailing_ones.ensures, h.0))

pub returns-clause-right : goal.returns-clause-right
returns-clause-right c =
    let marks = bit_or c.places_of-ones.result c.places_of.result in
    let fits = or_lt 64 _ _ c.places_of-ones.type_inv c.places_of.type_inv in
    let h = bit_at-trailing_ones w64 marks (omega (arith, c.if-digits.false, fits)) in
    digits-front c.args.bytes.now 64 _ _ c.trailing_ones.result c.requires
    c.places_of-ones.ensures c.places_of.ensures
    (omega (arith, c.trailing_ones.ensures, h.0))
    (λ i below. h.2 i (omega (arith, below, c.trailing_ones.ensures)))
