-- The digits of elements, and the elements that they stand for.
use Rattle.std.specs.Prelude.{ℕ, ◌==◌, ◌||◌, Bool, List}
use Rattle.std.specs.List.{list_all}
use Rattle.nx_code.specs.Reading.{digit_one, digit_zero}

-- the digit stands for B
abbrev pub is_one : ℕ → Bool
is_one byte = byte == digit_one

-- the byte is the digit of an element
abbrev pub is_element : ℕ → Bool
is_element byte = byte == digit_zero || byte == digit_one

-- each of these bytes is
abbrev pub are_elements : List ℕ → Bool
are_elements bytes = list_all is_element bytes
