use Rattle.std.proofs.Common.{◌≡◌, ◌≤◌, take}
use Rattle.nx_envelope.specs.Copies.{errors_of}
use Rattle.nx_envelope.proofs.finder.errors_in.Given as goal

-- those so far are counted
abbrev pub invariant-loop-byte : goal.invariant-loop-byte
invariant-loop-byte l =
    (l.errors ≡ errors_of (take l.byte-index l.text)) × (l.errors ≤ l.byte-index)
