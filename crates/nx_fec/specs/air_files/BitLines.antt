-- The lines that elements are written in (this profile).
use Rattle.std.specs.Prelude.{ℕ, ◌*◌, Bool, List, length, map, take, drop, None}
use Rattle.std.specs.List.{range_with_len}
use Rattle.std.specs.Int.{div_ceil}
use Rattle.nx_fec.specs.air_files.AirFile.{Line, elements}

-- how many elements each line has that is written, but for the last
abbrev pub line_elements : ℕ
line_elements = 490

-- line i has so many elements, from i times as many on, or as many as are left
abbrev pub bit_line : List Bool → ℕ → Line
bit_line bits i = elements None (take line_elements (drop (line_elements * i) bits))

-- as many lines as hold all elements, and none where there is no element
abbrev pub bit_lines : List Bool → List Line
bit_lines bits = map (bit_line bits) (range_with_len 0 (div_ceil (length bits) line_elements))
