-- Room for the families of a channel, in a block of its own (this profile).
use Rattle.std.specs.Prelude.{List, []}
use Rattle.nx_combine.specs.FamilyPlaces.{LentFamily}
use Rattle.nx_handle.specs.CombiningPlaces.{CombiningPlaceView, combining_place}
use Rattle.nx_handle.specs.PlaceKinds.{PlaceKind}

-- contracts see such a room as what lies in it
abbrev pub families_in : List LentFamily → List LentFamily
families_in lying = lying

-- so all such rooms are alike where nothing lies in them
abbrev pub nothing_in : List LentFamily → List LentFamily
nothing_in lying = []

-- a place with such a room, and its kind
abbrev pub Combines : Type 0
Combines = CombiningPlaceView (List LentFamily)

abbrev pub combines : PlaceKind Combines
combines = combining_place families_in nothing_in
