-- Families in room that a caller lends, and what tells where in it they lie (this profile).
use Rattle.std.specs.Prelude.{ℕ, ◌≤◌, ◌<◌, List, ◌++◌, drop, length, map, take, Option}
use Rattle.nx_code.specs.Reading.{Reception}
use Rattle.nx_copies.specs.declared.entry.EntryHead.{EntryHead}
use Rattle.nx_combine.specs.Families.{Family}
use Rattle.nx_combine.specs.Judging.{HeldFamilies}
use Rattle.nx_combine.specs.declared.family_ring.FamilyRing.{FamilyRing}

-- What contracts see of a place: a family, and the head of its last combined copy that was printed,
-- if one was. Behind the positions of the family lies what is left there of longer ones before.
pub record LentFamily : Type 0 where
  pub family : Family
  pub behind : List Reception
  pub printed : Option EntryHead

-- Of so many of the places that are taken, what lies there, newest first: the newest at the first
-- one, and each older one behind it. Behind the last place comes that with which the room begins.
abbrev pub newest_first : {P : Type 0} → ℕ → ℕ → List P → List P
newest_first first taken places = take taken (drop first places ++ take first places)

-- what is held so
abbrev pub held_in : FamilyRing → List LentFamily → HeldFamilies
held_in ring places = record {
  families =
      map (λ (place : LentFamily). place.family) (newest_first ring.first ring.taken places);
  printed = map (λ (place : LentFamily). place.printed) (newest_first ring.first ring.taken places);
}

-- the room is that of the ring, or one like it: it has at least one place
pub record BelongsTo (ring : FamilyRing) (places : List LentFamily) : Type 0 where
  pub first : ring.first < length places
  pub taken : ring.taken ≤ length places
