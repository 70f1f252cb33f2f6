use Rattle.std.proofs.Common.{ℕ, ◌<◌}
use Rattle.nx_fec.specs.emissions.Aligned.{words_of}
use Rattle.nx_station.specs.StrictReading.{IsUnpaired}
use Rattle.nx_station.proofs.reading.first_unpaired.Given as goal

abbrev pub invariant-loop-position : goal.invariant-loop-position
invariant-loop-position l = (k : ℕ) → k < l.position → ¬ IsUnpaired (words_of l.bits) k
