-- What words count as by their classes.
use Rattle.std.specs.Prelude.{◌≡◌, ℕ, ◌==◌, if◌then◌else◌, Bool, true, false, refl}
use Rattle.std.proofs.Common.{sym}
use Rattle.std.proofs.lemmas.Bool.{eqb-true}
use Rattle.nx_fec.specs.emissions.Pairing.{Counted, traffic, idle_signal, nothing}

-- what a word of this class counts as
abbrev pub counted_by : ℕ → Counted
counted_by class =
    if class == 0 then nothing else (if class == 33 then idle_signal else traffic class)

-- the class of a word that counts so
abbrev pub class_by : Counted → ℕ
class_by (traffic number) = number
class_by idle_signal = 33
class_by nothing = 0

same_if : (class : ℕ) (none service : Bool) → (class == 0) ≡ none → (class == 33) ≡ service
    → class_by (if none then nothing else (if service then idle_signal else traffic class)) ≡ class
same_if class true service h k = sym (eqb-true class 0 h)
same_if class false true h k = sym (eqb-true class 33 k)
same_if class false false h k = refl

-- nothing else is kept than what contracts see
pub same_class : (class : ℕ) → class_by (counted_by class) ≡ class
same_class class = same_if class (class == 0) (class == 33) refl refl
