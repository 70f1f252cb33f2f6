-- What judges combined copies holds, and which copies leave it so (this profile). What is named
-- `holding` takes first how many families are held; the same name without that word is its case of
-- 200.
use Rattle.std.specs.Prelude.{◌≡◌, ℕ, zero, suc, ◌<◌, ◌==◌, Bool, false, if◌then◌else◌}
use Rattle.std.specs.Prelude.{List, [], ◌∷◌, ◌++◌, fold, length, map, take, Option, Some}
use Rattle.std.specs.List.{AllByRecursion, find}
use Rattle.std.specs.Option.{option_map, option_map_or}
use Rattle.nx_code.specs.Reading.{Reception}
use Rattle.nx_envelope.specs.Copies.{errors_of}
use Rattle.nx_envelope.specs.FinderView.{FinderView}
use Rattle.nx_memory.specs.declared.memories.entry.MemoryEntry.{MemoryEntry}
use Rattle.nx_copies.specs.copies.FoundCopies.{TaggedCopy, headed_copy}
use Rattle.nx_copies.specs.declared.entry.EntryHead.{EntryHead}
use Rattle.nx_combine.specs.CombinedPrinting.{entry_made_combined, if_printed_combined}
use Rattle.nx_combine.specs.CopyPositions.{HeardCopy}
use Rattle.nx_combine.specs.Families.{CombinedCopy, Family, combined_copy_holding}
use Rattle.nx_combine.specs.Families.{families_after_holding, most_families, most_positions}
use Rattle.nx_combine.specs.declared.combiner.PrintedCopy.{PrintedCopy}

-- what the line that heads an entry says of a copy
abbrev pub head_of : TaggedCopy → EntryHead
head_of copy = record {
  identity = copy.identity;
  moment = copy.moment;
  how = copy.how;
  errors = errors_of copy.text;
}

-- the combined copy is of the family of this number: so many were begun before that
abbrev pub is_of_number : ℕ → CombinedCopy → Bool
is_of_number number one = option_map_or (λ own. number == own) one.family false

-- the head of the last combined copy of that family that was printed, of these, newest first
unfoldable pub last_printed : List CombinedCopy → ℕ → Option EntryHead
last_printed before number =
    option_map (λ one. head_of one.copy) (find (is_of_number number) before)

-- the same of each of so many families, newest first
unfoldable pub all_last_printed : List CombinedCopy → ℕ → List (Option EntryHead)
all_last_printed before zero = []
all_last_printed before (suc number) = last_printed before number ∷ all_last_printed before number

-- from how many sendings the last of these combined copies is put together, which stand newest
-- first; 0 where there is none
abbrev pub sendings_of_last : List CombinedCopy → ℕ
sendings_of_last [] = 0
sendings_of_last (one ∷ before) = one.sendings

-- what copies left that were judged so far: the entries that were made, oldest first; and all
-- families that were begun and the combined copies that were printed, newest first
pub record Judged : Type 0 where
  pub entries : List MemoryEntry
  pub families : List Family
  pub printed : List CombinedCopy

-- the combined copy of one more, if it is printed
abbrev pub printed_by_holding : ℕ → Judged → HeardCopy → List CombinedCopy
printed_by_holding held so_far heard =
    if_printed_combined so_far.entries so_far.printed
    (combined_copy_holding held so_far.families heard)

-- what is left after one more
abbrev pub judged_after_holding : ℕ → Judged → HeardCopy → Judged
judged_after_holding held so_far heard = record {
  entries = so_far.entries
      ++ entry_made_combined so_far.entries so_far.printed
      (combined_copy_holding held so_far.families heard);
  families = families_after_holding held so_far.families heard;
  printed = printed_by_holding held so_far heard ++ so_far.printed;
}

abbrev pub judged_after : Judged → HeardCopy → Judged
judged_after = judged_after_holding most_families

-- and after more of them
abbrev pub judged_behind_holding : ℕ → Judged → List HeardCopy → Judged
judged_behind_holding held so_far copies = fold (judged_after_holding held) so_far copies

abbrev pub judged_behind : Judged → List HeardCopy → Judged
judged_behind = judged_behind_holding most_families

-- the combined copies that are printed of more of them, in order
abbrev pub all_printed_holding : ℕ → Judged → List HeardCopy → List CombinedCopy
all_printed_holding held so_far [] = []
all_printed_holding held so_far (heard ∷ later) =
    printed_by_holding held so_far heard
    ++ all_printed_holding held (judged_after_holding held so_far heard) later

abbrev pub all_printed : Judged → List HeardCopy → List CombinedCopy
all_printed = all_printed_holding most_families

-- what is held of the families of a channel, wherever they lie: families, newest first, and of each
-- the head of its last combined copy that was printed, if one was
pub record HeldFamilies : Type 0 where
  pub families : List Family
  pub printed : List (Option EntryHead)

-- what a combiner holds: families, newest first; of each the head of its last combined copy that
-- was printed, if one was; and the finder that reads joined positions
pub record CombinerView : Type 0 where
  pub families : List Family
  pub printed : List (Option EntryHead)
  pub finder : FinderView

-- the same of what holds families, and of a finder
abbrev pub combiner_of : HeldFamilies → FinderView → CombinerView
combiner_of held finder = record {
  families = held.families;
  printed = held.printed;
  finder = finder;
}

-- where the combined copy has a family, that is one of the first so many
abbrev pub IsOfBegun : ℕ → CombinedCopy → Type 0
IsOfBegun count one = (number : ℕ) → one.family ≡ Some number → number < count

-- A combiner stands so after copies: these are all families that were begun, and these the combined
-- copies that were printed, each of one of these, both newest first. It holds the last of the
-- families, so many.
pub record StandsHolding (count : ℕ) (combiner : CombinerView) (families : List Family)
    (before : List CombinedCopy)
    : Type 0 where
  pub held : combiner.families ≡ take count families
  pub printed : combiner.printed ≡ take count (all_last_printed before (length families))
  pub begun : AllByRecursion (IsOfBegun (length families)) before

-- The copy that was heard is this one. Of positions that are too many not more are given than show
-- it.
pub record IsGivenAs (heard : HeardCopy) (copy : TaggedCopy) (positions : List Reception) : Type 0
  where
    pub heard_copy : heard.copy ≡ copy
    pub given : positions ≡ take (suc most_positions) heard.positions

-- the text of a copy that is printed: that which was read of its family's positions, or its own
abbrev pub text_printed : PrintedCopy → List ℕ → List ℕ → List ℕ
text_printed printed read own = if printed.is_given then read else own

-- the copy that is printed, if one is, selected or not
abbrev pub copies_printed : Option PrintedCopy → List ℕ → List ℕ → Bool → List TaggedCopy
copies_printed answer read own selected =
    option_map_or
    (λ printed. headed_copy printed.head (text_printed printed read own) selected ∷ []) answer []

-- the copies that some combined copies come to
abbrev pub all_copies : List CombinedCopy → List TaggedCopy
all_copies combined = map (λ one. one.copy) combined
