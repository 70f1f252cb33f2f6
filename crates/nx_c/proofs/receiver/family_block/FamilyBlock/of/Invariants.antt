use Rattle.std.proofs.Common.{◌≡◌, length}
use Rattle.nx_c.proofs.receiver.family_block.FamilyBlock.of.Given as goal

-- as many places as there were turns
abbrev pub invariant-loop : goal.invariant-loop
invariant-loop l = length l.places.items ≡ l.counter
