use Rattle.std.proofs.Common.{◌≡◌, length, map, take}
use Rattle.nx_fec.specs.air_files.AirFile.{element_digit}
use Rattle.nx_fec.proofs.air_files.packed_elements.PackedElements.pack_bits.Given as goal

-- the digits of the first elements
abbrev pub invariant-loop-place : goal.invariant-loop-place
invariant-loop-place l = record {
  size : length l.digits ≡ 512;
  same : take l.place l.digits ≡ map element_digit (take l.place l.bits);
}
