use Rattle.std.proofs.Common.{◌≡◌, ◌≤◌, ◌++◌, length}
use Rattle.std.specs.Prelude.{IfSome}
use Rattle.nx_envelope.specs.Copies.{most_found}
use Rattle.nx_log.specs.private.Stages.{BeginsSome, written}
use Rattle.nx_log.proofs.entries.pieces.count_at.Given as goal

abbrev pub invariant-loop-byte : goal.invariant-loop-byte
invariant-loop-byte l = record {
  split : l.bytes ≡ written l.number ++ l.rest;
  few : IfSome l.number (λ n. n ≤ most_found);
  begins : BeginsSome l.fn.least (written l.number);
}

abbrev pub decreases-loop-byte : goal.decreases-loop-byte
decreases-loop-byte l = length l.rest
