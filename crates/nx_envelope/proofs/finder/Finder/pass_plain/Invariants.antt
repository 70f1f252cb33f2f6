use Rattle.std.proofs.Common.{List, ℕ}
use Rattle.nx_envelope.specs.Finder.{StandsAfter}
use Rattle.nx_envelope.proofs.lemmas.finder.PlainBytes.{WentBy}
use Rattle.nx_envelope.proofs.finder.Finder.pass_plain.Given as goal

-- those so far went by
abbrev pub invariant-loop-place : goal.invariant-loop-place
invariant-loop-place l =
    (text : List ℕ) → StandsAfter l.fn.self text → WentBy l.stage text l.bytes l.place
