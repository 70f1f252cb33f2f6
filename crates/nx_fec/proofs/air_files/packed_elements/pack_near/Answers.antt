use Rattle.std.proofs.Common.{arith, bit_or}
use Rattle.std.proofs.lemmas.Nat.{or_lt}
use Rattle.nx_fec.proofs.lemmas.packed.PackedFronts.{digits-front, near-ends, near-marks, ones-front}
use Rattle.nx_fec.proofs.air_files.packed_elements.pack_near.Goals as goal

pub returns-clause-count : goal.returns-clause-count
returns-clause-count c =
    let marks = bit_or c.near_places_of-ones.result c.near_places_of.result in
    let none = near-ends c.args.bytes.now _ _ c.requires c.near_places_of-ones.ensures
    c.near_places_of.ensures in
    let fits = or_lt 64 _ _ c.near_places_of-ones.type_inv c.near_places_of.type_inv in
    omega (arith, c.trailing_ones.ensures, (near-marks marks none fits).0)

pub returns-clause-number : goal.returns-clause-number
returns-clause-number c =
    let marks = bit_or c.near_places_of-ones.result c.near_places_of.result in
    let none = near-ends c.args.bytes.now _ _ c.requires c.near_places_of-ones.ensures
    c.near_places_of.ensures in
    let fits = or_lt 64 _ _ c.near_places_of-ones.type_inv c.near_places_of.type_inv in
    ones-front c.args.bytes.now 32 _ c.trailing_ones.result c.requires (omega arith)
    c.near_places_of-ones.ensures
    (omega (arith, c.trailing_ones.ensures, (near-marks marks none fits).0))

pub returns-clause-right : goal.returns-clause-right
returns-clause-right c =
    let marks = bit_or c.near_places_of-ones.result c.near_places_of.result in
    let none = near-ends c.args.bytes.now _ _ c.requires c.near_places_of-ones.ensures
    c.near_places_of.ensures in
    let fits = or_lt 64 _ _ c.near_places_of-ones.type_inv c.near_places_of.type_inv in
    let near = near-marks marks none fits in
    digits-front c.args.bytes.now 32 _ _ c.trailing_ones.result c.requires
    c.near_places_of-ones.ensures c.near_places_of.ensures
    (omega (arith, c.trailing_ones.ensures, near.0))
    (λ i below. near.1 i (omega (arith, below, c.trailing_ones.ensures)))
