-- Numbers of words in base 16 (this profile).
use Rattle.std.specs.Prelude.{ℕ, ◌/◌, ◌%◌, List, [], ◌∷◌, codes, slice_index}

-- the base in which they are written
abbrev pub hex_base : ℕ
hex_base = 16

-- the digits of that base, from that of 0 on
unfoldable pub hex_digits : List ℕ
hex_digits = codes "0123456789ABCDEF"

-- the digit of a number below 16
abbrev pub hex_digit : ℕ → ℕ
hex_digit number = slice_index hex_digits number

-- a number below 256 in two such digits
abbrev pub two_hex_digits : ℕ → List ℕ
two_hex_digits number = hex_digit (number / hex_base) ∷ hex_digit (number % hex_base) ∷ []
