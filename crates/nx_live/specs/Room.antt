-- What lies in room that a caller lends (this profile).
use base.Fml.{Fml, ffalse, ftrue, feq, flt, fsep, froom}
use base.Stored.{Coded, coded_list}
use denote.Index.{row}
use denote.Memory.{mem}
use denote.Param.{layout}
use denote.RattleType.{RattleType}
use denote.RawPtr.{Ptr, block_ptr, null_ptr}
use Rattle.std.specs.Prelude.{ℕ, zero, suc, ◌+◌, List, length}
use Rattle.std.specs.Borrow.{full_share}
use Rattle.nx_combine.specs.contracts.family_place.FamilyPlace as family

-- values lie side by side from an address on
abbrev pub in_a_row : (R : RattleType) → Ptr → List R.Denot → Fml
in_a_row R (block_ptr b o) values = row R full_share values b o
in_a_row R null_ptr values = ffalse

-- so many values lie so: one or more, and at most so many
abbrev pub lie : (R : RattleType) → ℕ → Ptr → ℕ → List R.Denot → Fml
lie R most p count values =
    fsep (feq ℕ (length values) count)
    (fsep (flt 0 count) (fsep (flt count (suc most)) (in_a_row R p values)))

-- there is room for so many values side by side
abbrev pub room_from : RattleType → ℕ → ℕ → ℕ → Fml
room_from R zero b o = ftrue
room_from R (suc n) b o = fsep (froom (layout R) b o) (room_from R n b (o + (mem R).size))

abbrev pub room_for : RattleType → Ptr → ℕ → Fml
room_for R (block_ptr b o) count = room_from R count b o
room_for R null_ptr count = ffalse

-- the place of a family
abbrev pub family_row : RattleType
family_row = family.the_row

abbrev pub families_coded : Coded (List family_row.Denot)
families_coded = coded_list family_row.coded
