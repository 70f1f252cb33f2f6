use Rattle.std.proofs.Common.{ℕ, List, take}
use Rattle.std.specs.FinSet as set
use Rattle.std.specs.List.{All}
use Rattle.std.specs.Ordering.{nat_cmp}
use Rattle.nx_code.specs.Reading.{IsCapital}
use Rattle.nx_log.proofs.queries.letters.Letters.of.Given as goal
use Rattle.nx_log.specs.Query.{IsSetOf}

-- the letters so far are capitals, and make the set
pub record Taken (bytes : List ℕ) (letters : set.FinSet nat_cmp) : Type 0 where
  pub capitals : All IsCapital bytes
  pub these : IsSetOf bytes letters

abbrev pub invariant-loop-byte : goal.invariant-loop-byte
invariant-loop-byte l = Taken (take l.byte-index l.text) l.letters
