use Rattle.std.proofs.Common.{◌≡◌, ◌-◌, ◌≤◌, length, map, take}
use Rattle.nx_fec.specs.emissions.Emission.{bits_of, emission, sent_position}
use Rattle.nx_fec.proofs.emissions.emission.to_bits.Given as goal

-- the elements of the slots so far
abbrev pub invariant-loop-word : goal.invariant-loop-word
invariant-loop-word l = record {
  within : l.slot ≤ length (emission (map sent_position l.positions));
  written : l.bits.items ≡ bits_of (take l.slot (emission (map sent_position l.positions)));
}

abbrev pub decreases-loop-word : goal.decreases-loop-word
decreases-loop-word l = length (emission (map sent_position l.positions)) - l.slot
