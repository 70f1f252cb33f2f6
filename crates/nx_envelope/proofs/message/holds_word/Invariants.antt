use Rattle.std.proofs.Common.{◌≡◌, ℕ, ◌<◌, false, drop, eqb}
use Rattle.std.specs.List.{starts_with}
use Rattle.nx_envelope.proofs.message.holds_word.Given as goal

abbrev pub invariant-loop-at : goal.invariant-loop-at
invariant-loop-at l = (k : ℕ) → k < l.at → starts_with eqb (drop k l.line) l.word ≡ false
