use Rattle.std.proofs.Common.{take}
use Rattle.std.proofs.lemmas.List.{length-take-le}
use Rattle.nx_fec.proofs.lemmas.packed.Packed.{elements-ones, masks-full}
use Rattle.nx_fec.proofs.air_files.packed_elements.pack_64.Goals as goal

pub returns-clause-number : goal.returns-clause-number
returns-clause-number c =
    let digits = c.args.digits.now in
    elements-ones (take 64 digits) _ (length-take-le 64 digits c.requires) c.places_of-ones.ensures

pub returns-clause-right : goal.returns-clause-right
returns-clause-right c =
    let digits = c.args.digits.now in
    masks-full (take 64 digits) _ _ (length-take-le 64 digits c.requires) c.places_of-zeros.ensures
    c.places_of-ones.ensures
