-- The bytes of decimal digits.
use Rattle.std.specs.Prelude.{ℕ, ◌≤◌}

-- the byte is a digit, 0 (48) to 9 (57)
abbrev pub IsDigit : ℕ → Type 0
IsDigit b = (48 ≤ b) × (b ≤ 57)
