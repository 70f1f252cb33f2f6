-- Where no family is held, each copy is judged alone.
use Rattle.std.proofs.Common.{◌≡◌, ℕ, ◌+◌, ◌≤◌, Bool, true, false, not, ◌&&◌, ◌||◌}
use Rattle.std.proofs.Common.{if◌then◌else◌, Option, Some, None, List, [], ◌∷◌, ◌++◌, length, map}
use Rattle.std.proofs.Common.{refl, sym, ap, ap₂, ◌∙◌, arith, append-nil}
use Rattle.std.specs.Prelude.{is_some}
use Rattle.std.specs.List.{AllByRecursion}
use Rattle.std.specs.Option.{option_and_then}
use Rattle.std.proofs.lemmas.Bool.{le-leb}
use Rattle.std.proofs.lemmas.List.{map-append}
use Rattle.nx_memory.specs.declared.memories.entry.MemoryEntry.{MemoryEntry}
use Rattle.nx_copies.specs.Events.{Event, Setting, Start, first_setting, setting_at}
use Rattle.nx_copies.specs.copies.FoundCopies.{TaggedCopy, tag, tagged_copies}
use Rattle.nx_copies.specs.copies.Log.{printed_of}
use Rattle.nx_copies.specs.copies.Printing.{entry_made, entry_of, if_printed, is_entered, is_good}
use Rattle.nx_copies.specs.copies.Printing.{is_number_00, is_printed, is_remembered, printed_copies}
use Rattle.nx_combine.specs.CombinedHearing.{copies_of}
use Rattle.nx_combine.specs.CombinedPrinting.{entry_made_combined, if_printed_combined}
use Rattle.nx_combine.specs.CombinedPrinting.{is_better_than_before, is_entered_combined}
use Rattle.nx_combine.specs.CombinedPrinting.{is_printed_combined, printed_combined}
use Rattle.nx_combine.specs.CombinedPrinting.{printed_of_placed_holding}
use Rattle.nx_combine.specs.CopyPositions.{HeardCopy, PlacedCopy, heard_copies}
use Rattle.nx_combine.specs.Families.{CombinedCopy, Family, combined_copies_holding}
use Rattle.nx_combine.specs.Families.{combined_copy_holding, families_after_holding, has_family}
use Rattle.nx_combine.specs.Families.{index_joined_holding, last_index, most_positions}
use Rattle.nx_combine.specs.Judging.{IsOfBegun, all_copies}
use Rattle.nx_combine.proofs.lemmas.Held.{begins_one, if_joins, join_past, no_family}
use Rattle.nx_combine.proofs.lemmas.Judged.{and_true, better_alone, better_none, last_past}
use Rattle.nx_combine.proofs.lemmas.Judged.{or_false, still_begun}
use Rattle.nx_combine.proofs.lemmas.Sendings.{and_false}

-- no copy joins a family
none_of : (families : List Family) (heard : HeardCopy) (o : Option ℕ)
    → option_and_then (if_joins 0 families heard) o ≡ None
none_of families heard None = refl
none_of families heard (Some index) = join_past 0 families heard index (omega arith)

joins_none : (families : List Family) (heard : HeardCopy)
    → index_joined_holding 0 families heard ≡ None
unfolding index_joined_holding
joins_none families heard = none_of families heard (last_index heard.copy.identity families)

-- the copy is alone: it comes to itself, and isn't better than another of its family, since there
-- is none
record IsAlone (families : List Family) (before : List CombinedCopy) (heard : HeardCopy) : Type 0
  where
    copy : (combined_copy_holding 0 families heard).copy ≡ heard.copy
    worse : is_better_than_before before (combined_copy_holding 0 families heard) ≡ false
    family : is_some (combined_copy_holding 0 families heard).family ≡ has_family heard
    begun : AllByRecursion (IsOfBegun (length (families_after_holding 0 families heard)))
        (combined_copy_holding 0 families heard ∷ before)

alone_if : (families : List Family) (before : List CombinedCopy) (heard : HeardCopy) (b : Bool)
    → has_family heard ≡ b → AllByRecursion (IsOfBegun (length families)) before
    → IsAlone families before heard
alone_if families before heard true has begun =
    let n = length families in
    let after = families_after_holding 0 families heard in
    let one = combined_copy_holding 0 families heard in
    let is = begins_one 0 families heard has (joins_none families heard) in
    let of : one.family ≡ Some n = ap (λ (o : CombinedCopy). o.family) is.one in
    let long : length after ≡ n + 1 = ap length is.after ∙ omega arith in
    record {
      copy = ap (λ (o : CombinedCopy). o.copy) is.one;
      worse = better_none before one n of (last_past before n n begun (omega arith));
      family = ap is_some of ∙ sym has;
      begun = (
        λ number here.
            let same : Some number ≡ Some n = sym here ∙ of in
            let this : number ≡ n = cc in
            omega arith,
        still_begun before n (length after) begun (omega arith),
      );
    }
alone_if families before heard false has begun =
    let n = length families in
    let after = families_after_holding 0 families heard in
    let one = combined_copy_holding 0 families heard in
    let is = no_family 0 families heard has in
    let of : one.family ≡ None = ap (λ (o : CombinedCopy). o.family) is.one in
    let long : length after ≡ n = ap length is.after in
    record {
      copy = ap (λ (o : CombinedCopy). o.copy) is.one;
      worse = better_alone before one of;
      family = ap is_some of ∙ sym has;
      begun = (
        λ number here. absurd (let contra : None ≡ Some number = sym of ∙ here in cc),
        still_begun before n (length after) begun (omega arith),
      );
    }

alone : (families : List Family) (before : List CombinedCopy) (heard : HeardCopy)
    → AllByRecursion (IsOfBegun (length families)) before → IsAlone families before heard
alone families before heard begun =
    alone_if families before heard (has_family heard) refl begun

pub itself_alone : (families : List Family) (heard : HeardCopy)
    → (combined_copy_holding 0 families heard).copy ≡ heard.copy
itself_alone families heard = (alone families [] heard tt).copy

-- Whether it is printed, and entered.

module _ (entries : List MemoryEntry) (before : List CombinedCopy) (one : CombinedCopy)
    (copy : TaggedCopy) (is : one.copy ≡ copy)
    (worse : is_better_than_before before one ≡ false) where
  printed_as : is_printed_combined entries before one ≡ is_printed entries copy
  unfolding is_printed_combined
  printed_as =
      ap₂ (λ (c : TaggedCopy) b. is_printed entries c || (is_remembered entries c && b)) is worse
      ∙ ap (λ r. is_printed entries copy || r) (and_false (is_remembered entries copy))
      ∙ or_false (is_printed entries copy)

  shown_if : (b : Bool)
      → all_copies (if b then one ∷ [] else []) ≡ (if b then copy ∷ [] else [])
  shown_if true = ap (λ (c : TaggedCopy). c ∷ []) is
  shown_if false = refl

  shown_as : all_copies (if_printed_combined entries before one) ≡ if_printed entries copy
  unfolding if_printed_combined if_printed
  shown_as =
      ap (λ b. all_copies (if b then one ∷ [] else [])) printed_as
      ∙ shown_if (is_printed entries copy)

  made_as : is_some one.family ≡ not (is_number_00 copy)
      → entry_made_combined entries before one ≡ entry_made entries copy
  unfolding entry_made_combined is_entered_combined entry_made is_entered
  made_as of =
      ap (λ p. if p && is_good one.copy && is_some one.family then entry_of one.copy ∷ [] else [])
      printed_as
      ∙ ap (λ (c : TaggedCopy). if is_printed entries copy && is_good c && is_some one.family
      then entry_of c ∷ [] else []) is
      ∙ ap (λ s. if is_printed entries copy && is_good copy && s then entry_of copy ∷ [] else [])
      of

all_shown : (P : CombinedCopy → Type 0) (one : CombinedCopy) (rest : List CombinedCopy) (b : Bool)
    → AllByRecursion P (one ∷ rest) → AllByRecursion P ((if b then one ∷ [] else []) ++ rest)
all_shown P one rest true all = all
all_shown P one rest false all = all.1

-- All of them, one after the other.

abbrev IsShort : HeardCopy → Type 0
IsShort heard = length heard.positions ≤ most_positions

family_if : (heard : HeardCopy) → heard.copy.selected ≡ true → IsShort heard
    → has_family heard ≡ not (is_number_00 heard.copy)
family_if heard selected short =
    ap₂ (λ s l. s && not (is_number_00 heard.copy) && l) selected
    (le-leb (length heard.positions) most_positions short)
    ∙ and_true (not (is_number_00 heard.copy))

-- what is printed of later ones, whatever was before
abbrev SameBehind : List Family → List HeardCopy → Type 0
SameBehind families later =
    (entries : List MemoryEntry) (before : List CombinedCopy)
    → AllByRecursion (IsOfBegun (length families)) before
    → all_copies (printed_combined entries before (combined_copies_holding 0 families later))
    ≡ printed_copies entries (copies_of later)

unprinted_as : (entries : List MemoryEntry) (copy : TaggedCopy) → copy.selected ≡ false
    → is_printed entries copy ≡ false
unfolding is_printed
unprinted_as entries copy fails = rw fails refl

none_printed : (entries : List MemoryEntry) (copy : TaggedCopy) → is_printed entries copy ≡ false
    → (f : List MemoryEntry → List TaggedCopy)
    → (if_printed entries copy ++ f (entries ++ entry_made entries copy)) ≡ f entries
unfolding if_printed entry_made is_entered
none_printed entries copy fails f = rw fails (ap f (append-nil entries))

one_alone : (entries : List MemoryEntry) (before : List CombinedCopy) (families : List Family)
    (heard : HeardCopy) (later : List HeardCopy) (b : Bool) → heard.copy.selected ≡ b
    → AllByRecursion (IsOfBegun (length families)) before → IsShort heard
    → SameBehind (families_after_holding 0 families heard) later
    → all_copies (printed_combined entries before
    ((if b then combined_copy_holding 0 families heard ∷ [] else [])
    ++ combined_copies_holding 0 (families_after_holding 0 families heard) later))
    ≡ if_printed entries heard.copy
    ++ printed_copies (entries ++ entry_made entries heard.copy) (copies_of later)
unfolding printed_combined if_printed_combined
one_alone entries before families heard later true selected begun short rest =
    let one = combined_copy_holding 0 families heard in
    let after = families_after_holding 0 families heard in
    let is = alone families before heard begun in
    let of = is.family ∙ family_if heard selected short in
    let shown = if_printed_combined entries before one in
    let made = entry_made_combined entries before one in
    map-append (λ (c : CombinedCopy). c.copy) shown
    (printed_combined (entries ++ made) (shown ++ before) (combined_copies_holding 0 after later))
    ∙ ap₂ (λ (x y : List TaggedCopy). x ++ y)
    (shown_as entries before one heard.copy is.copy is.worse)
    (rest (entries ++ made) (shown ++ before)
    (all_shown (IsOfBegun (length after)) one before (is_printed_combined entries before one)
    is.begun)
    ∙ ap (λ m. printed_copies (entries ++ m) (copies_of later))
    (made_as entries before one heard.copy is.copy is.worse of))
one_alone entries before families heard later false unselected begun short rest =
    let after = families_after_holding 0 families heard in
    let is = alone families before heard begun in
    let fails = unprinted_as entries heard.copy unselected in
    rest entries before is.begun.1
    ∙ sym (none_printed entries heard.copy fails (λ e. printed_copies e (copies_of later)))

all_alone : (families : List Family) (copies : List HeardCopy)
    → AllByRecursion IsShort copies → SameBehind families copies
unfolding combined_copies_holding printed_combined printed_copies
all_alone families [] short entries before begun = refl
all_alone families (heard ∷ later) short entries before begun =
    one_alone entries before families heard later heard.copy.selected refl begun short.0
    (all_alone (families_after_holding 0 families heard) later short.1)

-- so are those that are placed

heard_short : (first : Setting) (events : List Event) (copies : List PlacedCopy)
    → AllByRecursion (λ (one : PlacedCopy). length one.positions ≤ most_positions) copies
    → AllByRecursion IsShort (heard_copies first events copies)
unfolding heard_copies
heard_short first events [] short = tt
heard_short first events (copy ∷ copies) short =
    (short.0, heard_short first events copies short.1)

tagged_same : (first : Setting) (events : List Event) (copies : List PlacedCopy)
    → copies_of (heard_copies first events copies)
    ≡ tagged_copies first events (map (λ (one : PlacedCopy). one.found) copies)
unfolding heard_copies tagged_copies
tagged_same first events [] = refl
tagged_same first events (copy ∷ copies) =
    ap (λ l. tag (setting_at first events copy.found.place) copy.found ∷ l)
    (tagged_same first events copies)

pub placed_alone : (start : Start) (events : List Event) (copies : List PlacedCopy)
    → AllByRecursion (λ (one : PlacedCopy). length one.positions ≤ most_positions) copies
    → printed_of_placed_holding 0 start events copies
    ≡ printed_of start events (map (λ (one : PlacedCopy). one.found) copies)
placed_alone start events copies short =
    let first = first_setting start in
    all_alone [] (heard_copies first events copies) (heard_short first events copies short)
    start.entries [] tt
    ∙ ap (printed_copies start.entries) (tagged_same first events copies)
