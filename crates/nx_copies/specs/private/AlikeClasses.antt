-- Whether the two words of a position count alike, by classes.
use Rattle.std.specs.Prelude.{ℕ, ◌==◌, Bool, true, false, not, ◌&&◌}
use Rattle.nx_code.specs.Reading.{Reception, combination, idle, lost}

-- nothing was taken
abbrev pub is_lost : Reception → Bool
is_lost (combination number) = false
is_lost idle = false
is_lost lost = true

-- neither the class of the position nor that of its RX word is 0, and the DX word alone isn't lost
abbrev pub are_alike_by : ℕ → ℕ → Reception → Bool
are_alike_by class rx dx = not (class == 0) && (not (rx == 0) && not (is_lost dx))
