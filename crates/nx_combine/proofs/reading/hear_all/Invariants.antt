use Rattle.std.proofs.Common.{ℕ, List, ◌++◌, take}
use Rattle.nx_envelope.specs.Finder.{StandsAfter}
use Rattle.nx_combine.proofs.reading.hear_all.Given as goal

abbrev pub invariant-loop-byte : goal.invariant-loop-byte
invariant-loop-byte l =
    (text : List ℕ) → StandsAfter l.initial.finder text
    → StandsAfter l.finder (text ++ take l.byte-index l.bytes)
