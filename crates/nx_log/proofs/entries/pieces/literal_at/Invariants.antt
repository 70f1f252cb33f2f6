use Rattle.std.proofs.Common.{◌≡◌, ℕ, List, ◌++◌, length}
use Rattle.nx_log.proofs.entries.pieces.literal_at.Given as goal

-- what stands there of the text, and what is wanted of it
pub record StandsThere (bytes literal rest wanted : List ℕ) : Type 0 where
  pub done : List ℕ
  pub bytes_are : bytes ≡ done ++ rest
  pub literal_is : literal ≡ done ++ wanted

abbrev pub invariant-loop-byte : goal.invariant-loop-byte
invariant-loop-byte l = StandsThere l.bytes l.literal l.rest l.wanted

abbrev pub decreases-loop-byte : goal.decreases-loop-byte
decreases-loop-byte l = length l.wanted
