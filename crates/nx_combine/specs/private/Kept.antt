-- How a position is kept in one byte: by its class.
use Rattle.std.specs.Prelude.{◌≡◌, ℕ, ◌==◌, if◌then◌else◌, Bool, true, false, refl}
use Rattle.std.proofs.Common.{sym}
use Rattle.std.proofs.lemmas.Bool.{eqb-true}
use Rattle.nx_code.specs.Classes.{reception_of_class, service_class}
use Rattle.nx_code.specs.Reading.{Reception, combination, idle, lost}

-- the class of a position
abbrev pub class_by : Reception → ℕ
class_by (combination number) = number
class_by idle = service_class
class_by lost = 0

same_if : (class : ℕ) (none service : Bool) → (class == 0) ≡ none
    → (class == service_class) ≡ service
    → class_by (if none then lost else (if service then idle else combination class)) ≡ class
same_if class true service h k = sym (eqb-true class 0 h)
same_if class false true h k = sym (eqb-true class service_class k)
same_if class false false h k = refl

-- nothing else is kept than what contracts see
pub same_class : (class : ℕ) → class_by (reception_of_class class) ≡ class
same_class class = same_if class (class == 0) (class == service_class) refl refl
