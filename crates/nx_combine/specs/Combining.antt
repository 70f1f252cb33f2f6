-- What the calls that combine copies take and answer.
use Rattle.std.specs.Prelude.{◌≡◌, ℕ, ◌-◌, Bool, if◌then◌else◌, List, Option, IfSome, length}
use Rattle.std.specs.Option.{option_map, option_map_or}
use Rattle.nx_code.specs.Reading.{Reception}
use Rattle.nx_envelope.specs.Copies.{errors_of}
use Rattle.nx_copies.specs.copies.FoundCopies.{TaggedCopy, headed_copy}
use Rattle.nx_copies.specs.declared.entry.EntryHead.{EntryHead}
use Rattle.nx_combine.specs.CopyPositions.{HeardCopy}
use Rattle.nx_combine.specs.Families.{CombinedCopy, Family}
use Rattle.nx_combine.specs.declared.combining.Combined.{Combined}

-- the copy of a head, a text and positions, selected or not
abbrev pub heard_of : EntryHead → List ℕ → Bool → List Reception → HeardCopy
heard_of head text selected positions = record {
  copy = headed_copy head text selected;
  positions = positions;
}

-- how many families a copy begins
abbrev pub begun_with : Bool → ℕ
begun_with begins = if begins then 1 else 0

-- the copy that is meant: that of the head that is given, and the text that is read; or where none
-- is given, the copy itself
abbrev pub meant : Option EntryHead → List ℕ → TaggedCopy → TaggedCopy
meant given read copy =
    option_map_or (λ head. headed_copy head read copy.selected) given copy

-- the answer is this combined copy, where these families stand now, and this was read
pub record IsCombined (one : CombinedCopy) (families : List Family) (read : List ℕ)
    (answer : Combined) : Type 0 where
  pub family : one.family ≡ option_map (λ index. length families - 1 - index) answer.family
  pub copy : one.copy ≡ meant answer.given read one.own.copy
  pub errors : IfSome answer.given (λ head. head.errors ≡ errors_of read)
  pub sendings : one.sendings ≡ answer.sendings
