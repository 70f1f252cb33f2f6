-- How what is refused is stored.
use Rattle.std.specs.Prelude.{refl}
use Rattle.std.specs.Ordering.{nat_cmp}
use Rattle.std.specs.FinSet as set
use Rattle.std.specs.Coded.{Coded, code_by, coded_ℕ, coded×}
use Rattle.nx_memory.specs.Selection.{Refused}

-- the two sets are stored as their pair
abbrev pub refused_code : Coded Refused
refused_code =
    code_by
    (set.FinSet nat_cmp × set.FinSet nat_cmp)
    (coded× (set.code coded_ℕ) (set.code coded_ℕ))
    (λ r. (r.stations, r.subjects))
    (λ p. record { stations = p.0; subjects = p.1 })
    (λ _. refl)
