use Rattle.std.proofs.Common.{Bool, Vec, Global}
use Rattle.nx_fec.proofs.lemmas.lines.ExactLaws.{exact-fault, exact-good}
use Rattle.nx_fec.proofs.air_files.reading.read_bits.Goals as goal

pub returns-clause-fault : goal.returns-clause-fault
returns-clause-fault g c =
    exact-fault (λ (v : Vec Bool Global). v.items) _ 1048576 _ c.read_elements.ensures.file

pub returns-clause-good : goal.returns-clause-good
returns-clause-good g c =
    exact-good (λ (v : Vec Bool Global). v.items) _ 1048576 _ c.read_elements.ensures.file
