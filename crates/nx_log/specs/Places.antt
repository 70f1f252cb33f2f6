-- Where an entry stands in a kept log (this profile).
use Rattle.std.specs.Prelude.{◌≡◌, ℕ, ◌-◌, ◌^◌, ◌≤◌, List, Option, None}
use Rattle.std.specs.Str.Parse.{IsNumeral, digits_value}
use Rattle.nx_copies.specs.copies.Shares.{MarkedCopy}
use Rattle.nx_log.specs.Query.{chosen_by}
use Rattle.nx_log.specs.declared.queries.query.Query.{Query}
use Rattle.nx_log.specs.declared.writing.places.Places.{Places}

-- an entry, and where it stands, where that is told
pub record PlacedCopy : Type 0 where
  pub one : MarkedCopy
  pub places : Option Places

-- an entry whose places aren't told
abbrev pub unplaced : MarkedCopy → PlacedCopy
unplaced one = record { one = one; places = None }

abbrev pub copy_of : PlacedCopy → MarkedCopy
copy_of placed = placed.one

-- of entries those that the query chooses
abbrev pub chosen_placed : Query → List PlacedCopy → List PlacedCopy
chosen_placed query entries = chosen_by copy_of query entries

-- the text says a place: digits alone, at most 2^63 - 1
pub record SaysPlace (text : List ℕ) (place : ℕ) : Type 0 where
  pub digits : IsNumeral 10 text
  pub value : place ≡ digits_value 10 text
  pub in_range : place ≤ 2 ^ 63 - 1
