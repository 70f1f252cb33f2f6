use Rattle.std.proofs.Common.{◌≡◌, ◌≤◌, drop, length, map}
use Rattle.std.specs.Simd.Lanes.{mask_l}
use Rattle.nx_fec.specs.private.Packing.{are_elements, is_one}
use Rattle.nx_fec.proofs.air_files.packed_elements.pack_last.Given as goal

-- the mask of the last digits
abbrev pub invariant-loop-place : goal.invariant-loop-place
invariant-loop-place l = record {
  within : l.place ≤ length l.digits;
  number : l.number ≡ mask_l (map is_one (drop l.place l.digits));
  right : l.right ≡ are_elements (drop l.place l.digits);
}
