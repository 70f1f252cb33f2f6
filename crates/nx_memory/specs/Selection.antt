-- Selection: stations and subjects that are refused, but for the vital ones (ITU-R M.540; that a
-- refused station is refused for all subjects is this profile's).
use Rattle.std.specs.Prelude.{Bool, not, ◌&&◌, IsTrue, codes, false, ℕ, ◌==◌, ◌≡◌}
use Rattle.std.specs.FinSet as set
use Rattle.std.specs.List.{list_any}
use Rattle.std.specs.Ordering.{nat_cmp}
use Rattle.nx_envelope.specs.declared.identity.Identity.{Identity}
use Rattle.nx_memory.specs.Letters.{HasLettersOnly}

-- two sets of refused letters, each letter by its byte, A (65) to Z (90)
pub record Refused : Type 0 where
  pub stations : set.FinSet nat_cmp
  pub subjects : set.FinSet nat_cmp

-- the subject is A, B, D or L
abbrev pub is_vital : ℕ → Bool
is_vital subject = list_any (λ vital. vital == subject) (codes "ABDL")

-- none of these is in the set
abbrev pub IsWithoutVital : set.FinSet nat_cmp → Type 0
IsWithoutVital subjects =
    (subject : ℕ) → IsTrue (is_vital subject) → set.contains subjects subject ≡ false

-- what can be refused: letters, and no vital subject
pub record IsRefusable (refused : Refused) : Type 0 where
  pub stations : HasLettersOnly refused.stations
  pub subjects : HasLettersOnly refused.subjects
  pub without_vital : IsWithoutVital refused.subjects

-- the station is not among the refused ones, nor the subject
abbrev pub admits : Refused → Identity → Bool
admits refused identity =
    not (set.contains refused.stations identity.b1.byte)
    && not (set.contains refused.subjects identity.b2.byte)
