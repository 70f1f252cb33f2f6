use Rattle.std.proofs.Common.{arith}
use Rattle.nx_fec.proofs.lemmas.packed.PackedFronts.{number-put}
use Rattle.nx_fec.proofs.air_files.packed_elements.PackedElements.put.Goals as goal

pub returns : goal.returns
returns c = number-put c.self.inside.numbers c.args.number c.args.count (omega arith) c.requires
