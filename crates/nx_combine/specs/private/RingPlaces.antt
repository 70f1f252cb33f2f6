-- Where in lent places the families of a ring lie.
use Rattle.std.specs.Prelude.{ℕ, ◌+◌, ◌-◌, ◌==◌, nat_lt, if◌then◌else◌}

-- the place of the family of this index, where the newest lies at the first one
abbrev pub place_at : ℕ → ℕ → ℕ → ℕ
place_at first index places =
    if nat_lt index (places - first) then first + index else index - (places - first)

-- the place before the first one
abbrev pub place_before : ℕ → ℕ → ℕ
place_before first places = if first == 0 then places - 1 else first - 1
