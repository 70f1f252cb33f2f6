use Rattle.std.proofs.Common.{ℕ, ◌<◌}
use Rattle.nx_fec.specs.emissions.Aligned.{words_of}
use Rattle.nx_station.specs.StrictReading.{IsWrongWord}
use Rattle.nx_station.proofs.reading.first_wrong_word.Given as goal

abbrev pub invariant-loop-slot : goal.invariant-loop-slot
invariant-loop-slot l = (k : ℕ) → k < l.slot → ¬ IsWrongWord (words_of l.bits) k
