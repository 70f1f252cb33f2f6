use Rattle.std.proofs.Common.{◌≡◌, length, map, take}
use Rattle.nx_fec.specs.private.Packing.{is_one}
use Rattle.nx_fec.proofs.air_files.lines.unpack.Given as goal

-- the elements of the first digits
abbrev pub invariant-loop-place : goal.invariant-loop-place
invariant-loop-place l = record {
  size : length l.elements ≡ 512;
  same : take l.place l.elements ≡ map is_one (take l.place l.digits);
}
