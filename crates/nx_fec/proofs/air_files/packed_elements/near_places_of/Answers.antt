use Rattle.std.proofs.Common.{eqb, take, arith, w8}
use Rattle.std.proofs.lemmas.List.{length-take-le}
use Rattle.std.proofs.lemmas.Simd.{bitmask_splat}
use Rattle.nx_fec.proofs.air_files.packed_elements.near_places_of.Goals as goal

pub returns : goal.returns
returns c =
    let digits = c.args.digits.now in
    bitmask_splat w8 eqb (take 32 digits) 32 c.args.byte (length-take-le 32 digits c.requires)
    (omega arith)
