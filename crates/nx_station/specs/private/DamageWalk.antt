-- The walk over the elements of a line that are named for damage.
use Rattle.std.specs.Prelude.{◌≡◌, ℕ, zero, suc, ◌+◌, ◌-◌, ◌%◌, ◌≤◌, Bool, List, [], ◌∷◌}
use Rattle.nx_code.specs.Word.{value_of}
use Rattle.nx_station.specs.Damage.{Damage, damaged_element, inverts}
use Rattle.nx_station.specs.declared.damaging.Named.{Named}

-- elements after the damage of so many of them, and how many of these are inverted
abbrev pub front : Damage → ℕ → ℕ → List Bool → List Bool
front damage place zero bits = bits
front damage place (suc i) [] = []
front damage place (suc i) (x ∷ xs) = damaged_element damage place x ∷ front damage (place + 1) i xs

abbrev pub front_count : Damage → ℕ → ℕ → List Bool → ℕ
front_count damage place zero bits = 0
front_count damage place (suc i) [] = 0
front_count damage place (suc i) (x ∷ xs) =
    value_of (inverts damage place) + front_count damage (place + 1) i xs

-- the walk stands at an element, or behind the last one
pub record IsOnWalk (named : Named) (at : ℕ) : Type 0 where
  pub from : named.first ≤ at
  pub by_strides : (at - named.first) % named.stride ≡ 0
