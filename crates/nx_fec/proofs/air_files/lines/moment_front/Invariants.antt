use Rattle.std.proofs.Common.{◌≡◌, ◌^◌, ◌-◌, ◌<◌, ◌≤◌, take}
use Rattle.std.specs.Fmt.{decimal}
use Rattle.nx_fec.proofs.air_files.lines.moment_front.Given as goal

-- the number so far is what the digits so far write
abbrev pub invariant-loop-count : goal.invariant-loop-count
invariant-loop-count l = record {
  some : 0 < l.count;
  within : l.count ≤ 11;
  fits : l.value < 10 ^ l.count;
  positive : 0 < l.value;
  same : take l.count l.bytes ≡ decimal l.value;
}

abbrev pub decreases-loop-count : goal.decreases-loop-count
decreases-loop-count l = 11 - l.count
