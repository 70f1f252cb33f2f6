use Rattle.nx_combine.specs.private.laws.ReadOn.{HasReadOn}
use Rattle.nx_combine.proofs.reading.read_positions.Given as goal

abbrev pub invariant-loop-index : goal.invariant-loop-index
invariant-loop-index l = HasReadOn l.finder l.fn.identity l.printer l.positions l.index
