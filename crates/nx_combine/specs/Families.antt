-- Families of copies, and what the copies of one come to together (this profile). The copies are
-- those of one channel, in the order of their headers. What is named `holding` takes first how many
-- families are held; what bears the same name without that word is its case of 200.
use Rattle.std.specs.Prelude.{ℕ, ◌+◌, ◌-◌, nat_lt, nat_le, Bool, false, not, ◌&&◌, if◌then◌else◌}
use Rattle.std.specs.Prelude.{List, [], ◌∷◌, ◌++◌, length, position}
use Rattle.std.specs.Prelude.{slice_get, slice_set, Option, Some, None, unwrap_or}
use Rattle.std.specs.Option.{option_and_then, option_map, option_map_or}
use Rattle.nx_code.specs.Reading.{Reception}
use Rattle.nx_fec.specs.Transfers.{count_of}
use Rattle.nx_envelope.specs.Identity.{same_identity}
use Rattle.nx_envelope.specs.declared.identity.Identity.{Identity}
use Rattle.nx_memory.specs.Memory.{most_entries, seconds_known}
use Rattle.nx_copies.specs.copies.FoundCopies.{TaggedCopy}
use Rattle.nx_copies.specs.copies.Printing.{is_better, is_number_00}
use Rattle.nx_combine.specs.CopyPositions.{HeardCopy}
use Rattle.nx_combine.specs.Joining.{is_of_one_text, joined}
use Rattle.nx_combine.specs.PositionEnds.{ending_by, up_to_end}

-- a family: the identity of its copies, the moment of the first one, their positions, joined, and
-- how many they are
pub record Family : Type 0 where
  pub identity : Identity
  pub moment : ℕ
  pub positions : List Reception
  pub sendings : ℕ

-- the most positions of a copy that has a family
abbrev pub most_positions : ℕ
most_positions = 8192

-- how many families are held at most, and where nothing else is said: as many as a memory has
-- entries
abbrev pub most_families : ℕ
most_families = most_entries

-- for how many seconds behind its first copy a family is joined: 66 hours, as an entry is known
abbrev pub seconds_joined : ℕ
seconds_joined = seconds_known

-- only selected copies that aren't numbered 00 have a family, and only those of so few positions
abbrev pub has_family : HeardCopy → Bool
has_family heard =
    heard.copy.selected && not (is_number_00 heard.copy)
    && nat_le (length heard.positions) most_positions

-- the family began less than 66 hours before the copy, and its positions up to their end and those
-- of the copy are of one text
abbrev pub takes_in : Family → HeardCopy → Bool
takes_in family heard =
    nat_lt (heard.copy.moment - family.moment) seconds_joined
    && is_of_one_text (up_to_end family.positions) heard.positions

-- the index of the last family of the identity among all, which stand newest first: so many were
-- begun behind it
abbrev pub last_index : Identity → List Family → Option ℕ
last_index identity families =
    position (λ family. same_identity family.identity identity) families

-- fewer families than are held were begun behind the one of this index, and it takes the copy in
abbrev pub joins_at_holding : ℕ → List Family → HeardCopy → ℕ → Bool
joins_at_holding held families heard index =
    nat_lt index held
    && unwrap_or (option_map (λ family. takes_in family heard) (slice_get families index)) false

-- the index of the family that the copy joins: the last one of its identity, if that takes it in
unfoldable pub index_joined_holding : ℕ → List Family → HeardCopy → Option ℕ
index_joined_holding held families heard =
    option_and_then
    (λ index. if joins_at_holding held families heard index then Some index else None)
    (last_index heard.copy.identity families)

-- the family that a copy begins
abbrev pub begun_by : HeardCopy → Family
begun_by heard = record {
  identity = heard.copy.identity;
  moment = heard.copy.moment;
  positions = heard.positions;
  sendings = 1;
}

-- the family after the copy joined it: it has the joined positions, whole, and one copy more
abbrev pub joined_by : HeardCopy → Family → Family
joined_by heard family = record family {
  positions = joined family.positions heard.positions;
  sendings = count_of (family.sendings + 1);
}

-- the families, newest first, after the one of this index was joined
abbrev pub joined_at : List Family → HeardCopy → ℕ → List Family
joined_at families heard index =
    option_map_or (λ family. slice_set families index (joined_by heard family))
    (slice_get families index) families

-- the families, newest first, after one more copy
unfoldable pub families_after_holding : ℕ → List Family → HeardCopy → List Family
families_after_holding held families heard =
    if has_family heard then
    option_map_or (joined_at families heard) (index_joined_holding held families heard)
    (begun_by heard ∷ families)
    else families

abbrev pub families_after : List Family → HeardCopy → List Family
families_after = families_after_holding most_families

-- the copy as the positions of its family give it: they say how it ended, and its text
unfoldable pub given_by : List Reception → TaggedCopy → TaggedCopy
given_by positions copy = record copy {
  how = (ending_by positions).how;
  text = (ending_by positions).text;
}

-- of the copy and what its family gives, the latter, unless the copy itself is better
abbrev pub combined : List Reception → TaggedCopy → TaggedCopy
combined positions copy =
    if is_better copy (given_by positions copy) then copy else given_by positions copy

-- from how many sendings that is put together: from all of the family, where it gives the copy,
-- and else from the copy alone
abbrev pub sendings_of : Family → TaggedCopy → ℕ
sendings_of family copy =
    if is_better copy (given_by family.positions copy) then 1 else family.sendings

-- A combined copy: the copy that joined last, its family, by how many were begun before that one,
-- the positions of the family, what it comes to, and from how many sendings that is put together.
-- One that has no family is the copy itself.
pub record CombinedCopy : Type 0 where
  pub own : HeardCopy
  pub family : Option ℕ
  pub positions : List Reception
  pub copy : TaggedCopy
  pub sendings : ℕ

-- the combined copy of one that joins no other: it is the copy itself
abbrev pub alone : Option ℕ → HeardCopy → CombinedCopy
alone family heard = record {
  own = heard;
  family = family;
  positions = heard.positions;
  copy = heard.copy;
  sendings = 1;
}

-- the combined copy of one that joined this family, of so many begun before it
abbrev pub together : ℕ → Family → HeardCopy → CombinedCopy
together number family heard = record {
  own = heard;
  family = Some number;
  positions = family.positions;
  copy = combined family.positions heard.copy;
  sendings = sendings_of family heard.copy;
}

-- the combined copy of one that joins the family of this index, of these, which stand newest first
abbrev pub combined_at : List Family → HeardCopy → ℕ → CombinedCopy
combined_at families heard index =
    option_map_or
    (λ family. together (length families - 1 - index) (joined_by heard family) heard)
    (slice_get families index) (alone None heard)

-- the combined copy of a copy that comes behind these families
unfoldable pub combined_copy_holding : ℕ → List Family → HeardCopy → CombinedCopy
combined_copy_holding held families heard =
    if has_family heard then
    option_map_or (combined_at families heard) (index_joined_holding held families heard)
    (alone (Some (length families)) heard)
    else alone None heard

-- the combined copies of copies that come behind these families, one for each that is selected, in
-- the same order
unfoldable pub combined_copies_holding : ℕ → List Family → List HeardCopy → List CombinedCopy
combined_copies_holding held families [] = []
combined_copies_holding held families (heard ∷ later) =
    (if heard.copy.selected then combined_copy_holding held families heard ∷ [] else [])
    ++ combined_copies_holding held (families_after_holding held families heard) later
