use Rattle.std.proofs.Common.{ap, sym, ◌∙◌, arith, length}
use Rattle.std.proofs.lemmas.List.{length-take-le}
use Rattle.nx_code.specs.Packed.{elements_of_numbers}
use Rattle.nx_code.proofs.lemmas.Packed.{length-numbers}
use Rattle.nx_fec.proofs.air_files.packed_elements.PackedElements.len.Goals as goal

pub returns-clause-count : goal.returns-clause-count
returns-clause-count c =
    let numbers = c.self.inside.numbers in
    let size = length-take-le c.self.inside.length (elements_of_numbers numbers)
    (omega (arith, c.self.invariant, length-numbers numbers, c.self.told)) in
    sym size ∙ ap length c.self.view_is
