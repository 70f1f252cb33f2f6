-- Letters, each by its byte, A (65) to Z (90).
use Rattle.std.specs.Prelude.{ℕ, IsTrue}
use Rattle.std.specs.Ordering.{nat_cmp}
use Rattle.std.specs.FinSet as set
use Rattle.nx_code.specs.Reading.{IsCapital}

-- the set holds nothing but letters
abbrev pub HasLettersOnly : set.FinSet nat_cmp → Type 0
HasLettersOnly letters = (byte : ℕ) → IsTrue (set.contains letters byte) → IsCapital byte
