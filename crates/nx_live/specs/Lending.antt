-- What becomes of a receiver whose places are lent, and of the room that makes one (this profile).
use base.Fml.{Fml, fsep, ftrue}
use denote.Array.{Array}
use denote.RawPtr.{Ptr}
use Rattle.std.specs.Prelude.{ℕ, List, [], ◌∷◌, length, map, replicate}
use Rattle.std.specs.Borrow.{Lends, MutBor, full_share}
use Rattle.std.specs.Ptr.{lies_at, room_at}
use Rattle.core.specs.Ptr.{ptr_add}
use Rattle.nx_combine.specs.FamilyPlaces.{LentFamily}
use Rattle.nx_handle.specs.declared.plain_place.PlainPlace.TheVariants.{Closed}
use Rattle.nx_handle.specs.CombiningPlaces.{combining_closed}
use Rattle.nx_combine.specs.Families.{most_families}
use Rattle.nx_live.specs.Room.{family_row, lie, room_for}
use Rattle.nx_live.specs.Places.{Places, Plain, Combining, combine, plain_row, combining_row}
use Rattle.nx_live.specs.declared.families.LentFamilies.{LentFamilies}
use Rattle.nx_live.specs.contracts.families.LentFamilies as families
use Rattle.nx_live.specs.declared.handle.NxLive.{NxLive}
use Rattle.nx_live.specs.contracts.handle.NxLive as handle

-- the families of a channel end as what was left in their places
abbrev pub LendsFamilies : MutBor LentFamilies → MutBor (List family_row.Denot) → Fml
LendsFamilies lent places =
    Lends families.the_row (Array family_row 0) lent places
    (λ left. record { at = lent.now.at; count = lent.now.count; value = left })

-- the receiver with these places
abbrev pub with_places : NxLive → Places → NxLive
with_places receiver places = record {
  at = receiver.at;
  count = receiver.count;
  combines = receiver.combines;
  value = places;
}

-- the receiver ends with what was left in its places, which are plain
abbrev pub LendsPlain : MutBor NxLive → MutBor (List plain_row.Denot) → Fml
LendsPlain receiver places =
    Lends handle.the_row (Array plain_row 0) receiver places
    (λ left. with_places receiver.now (Plain left))

-- the same of places that combine
abbrev pub LendsCombining : MutBor NxLive → MutBor (List combining_row.Denot) → Fml
LendsCombining receiver places =
    Lends handle.the_row (Array combining_row 0) receiver places
    (λ left. with_places receiver.now (Combining left))

-- what is lent to a receiver: room for so many plain places, or for places that combine, one for
-- each of these families of a channel
pub data LentRoom : Type 0 where
  PlainRoom : ℕ → LentRoom
  CombiningRoom : List LentFamilies → LentRoom

-- for how many channels
abbrev pub channels_of : LentRoom → ℕ
channels_of (PlainRoom channels) = channels
channels_of (CombiningRoom families) = length families

-- the places of a closed receiver of it
abbrev pub closed_places : LentRoom → Places
closed_places (PlainRoom channels) = Plain (replicate channels Closed)
closed_places (CombiningRoom families) = Combining (map combining_closed families)

-- the families of each channel lie where they say
abbrev pub families_lie : List LentFamilies → Fml
families_lie [] = ftrue
families_lie (lent ∷ more) =
    fsep (lie family_row most_families lent.at lent.count lent.value) (families_lie more)

-- there is room for the places from an address on, and the families lie there
abbrev pub room_lies : Ptr → LentRoom → Fml
room_lies room (PlainRoom channels) = room_for plain_row room channels
room_lies room (CombiningRoom families) =
    fsep (room_for combining_row room (length families)) (families_lie families)

-- and there is room for a receiver's handle
abbrev pub rooms_at : Ptr → Ptr → LentRoom → Fml
rooms_at receiver room lent = fsep (room_at handle.the_row receiver) (room_lies room lent)

-- a closed receiver of what is lent, whose places lie in this room
abbrev pub closed_at : Ptr → Ptr → LentRoom → Fml
closed_at receiver room lent = lies_at handle.the_row full_share receiver (record {
  at = room;
  count = channels_of lent;
  combines = combine (closed_places lent);
  value = closed_places lent;
})

-- These families, so many of each channel, side by side from an address on: those of the first
-- channel, and one channel's behind another's.
abbrev pub families_from : Ptr → ℕ → List (List LentFamily) → List LentFamilies
families_from p each [] = []
families_from p each (held ∷ more) =
    record { at = p; count = each; value = held }
    ∷ families_from (ptr_add family_row each p) each more

-- room for places that combine, with such families
abbrev pub room_with : Ptr → ℕ → List (List LentFamily) → LentRoom
room_with families each held = CombiningRoom (families_from families each held)
