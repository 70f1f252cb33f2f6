-- The places of a receiver, and where they lie (this profile).
use base.Fml.{Fml, feq, fsep}
use base.Stored.{Coded, coded_list, coded⊎}
use denote.RattleType.{RattleType}
use denote.RawPtr.{Ptr}
use denote.Struct.Codes.{code_by}
use Rattle.std.specs.Prelude.{◌≡◌, ◌⊎◌, ℕ, Bool, true, false, List, []}
use mathlib.Core.Logic.{inl, inr}
use Rattle.nx_combine.specs.FamilyPlaces.{LentFamily}
use Rattle.nx_live.specs.Room.{lie}
use Rattle.nx_live.specs.contracts.families.LentFamilies as families
use Rattle.nx_handle.specs.contracts.combining_place.CombiningPlace as combining_place
use Rattle.nx_handle.specs.contracts.plain_place.PlainPlace as plain_place

-- the place of a channel of a plain receiver
abbrev pub plain_row : RattleType
plain_row = plain_place.the_row

-- the families of a channel, which lie where the caller lent them
abbrev pub families_of : families.the_row.Denot → List LentFamily
families_of lent = lent.value

-- which room they have: that with nothing in it
abbrev pub vacant_of : families.the_row.Denot → families.the_row.Denot
vacant_of lent = record { at = lent.at; count = lent.count; value = [] }

-- the place of a channel that combines, with its families
abbrev pub combining_row : RattleType
combining_row =
    combining_place.the_row families.the_row
    (record { places = families_of; vacant = vacant_of })

-- the places of a receiver: plain ones, or ones that combine
pub data Places : Type 0 where
  Plain : List plain_row.Denot → Places
  Combining : List combining_row.Denot → Places

-- they combine
abbrev pub combine : Places → Bool
combine (Plain places) = false
combine (Combining places) = true

-- the plain ones
abbrev pub plain_of : Places → List plain_row.Denot
plain_of (Plain places) = places
plain_of (Combining places) = []

-- those that combine
abbrev pub combining_of : Places → List combining_row.Denot
combining_of (Plain places) = []
combining_of (Combining places) = places

-- they lie side by side from an address on, so many, one to three
abbrev pub lie_there : Ptr → ℕ → Places → Fml
lie_there p count (Plain places) = lie plain_row 3 p count places
lie_there p count (Combining places) = lie combining_row 3 p count places

-- and this says whether they combine
abbrev pub places_lie : Ptr → ℕ → Bool → Places → Fml
places_lie p count combines places =
    fsep (feq Bool combines (combine places)) (lie_there p count places)

abbrev either : Places → List plain_row.Denot ⊎ List combining_row.Denot
either (Plain places) = inl places
either (Combining places) = inr places

abbrev places_of : List plain_row.Denot ⊎ List combining_row.Denot → Places
places_of (inl places) = Plain places
places_of (inr places) = Combining places

pub places_of-either : (places : Places) → places_of (either places) ≡ places
places_of-either (Plain places) = λ i. Plain places
places_of-either (Combining places) = λ i. Combining places

abbrev pub places_coded : Coded Places
places_coded =
    code_by (List plain_row.Denot ⊎ List combining_row.Denot)
    (coded⊎ (coded_list plain_row.coded) (coded_list combining_row.coded))
    either places_of places_of-either
