use Rattle.std.proofs.Common.{◌≡◌, ◌*◌, length, map, take}
use Rattle.nx_code.specs.Packed.{elements_of_numbers}
use Rattle.nx_fec.specs.private.Packing.{are_elements, is_one}
use Rattle.nx_fec.proofs.air_files.packed_elements.PackedElements.read.Given as goal

-- the numbers so far have the elements of the digits so far
abbrev pub invariant-loop-place : goal.invariant-loop-place
invariant-loop-place l = record {
  size : length l.self-inside.numbers ≡ 8;
  none : l.self-inside.length ≡ 0;
  elements : take (64 * l.place) (elements_of_numbers l.self-inside.numbers)
      ≡ map is_one (take (64 * l.place) l.digits);
  right : l.right ≡ are_elements (take (64 * l.place) l.digits);
}
