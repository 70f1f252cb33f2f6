-- What is printed of several sendings taken together can stand in a log.
use Rattle.std.proofs.Common.{◌≡◌, ℕ, Bool, true, false, List, [], ◌∷◌, ◌++◌, length, cond}
use Rattle.std.proofs.Common.{None, Option, Some, ◌-◌, refl}
use Rattle.std.specs.Prelude.{slice_get, unwrap_or}
use Rattle.std.specs.List.{All}
use Rattle.std.specs.Option.{option_map_or}
use Rattle.std.proofs.lemmas.List.Elements.{All-append, All-cons, All-head, All-map, All-nil}
use Rattle.std.proofs.lemmas.List.Elements.{All-same, All-tail}
use Rattle.nx_code.specs.Reading.{Reception, text}
use Rattle.nx_code.specs.declared.shifts.Shift.TheVariants.{Figures}
use Rattle.nx_envelope.specs.Copies.{ending_of}
use Rattle.nx_memory.specs.declared.memories.entry.MemoryEntry.{MemoryEntry}
use Rattle.nx_copies.specs.Events.{Event, Setting, elements_among, first_setting}
use Rattle.nx_copies.specs.copies.FoundCopies.{TaggedCopy, tag}
use Rattle.nx_copies.specs.copies.Printing.{is_better}
use Rattle.nx_combine.specs.CombinedPrinting.{combined, entry_made_combined, if_printed_combined}
use Rattle.nx_combine.specs.CombinedPrinting.{is_printed_combined, printed_combined}
use Rattle.nx_combine.specs.CopyPositions.{HeardCopy, PlacedCopy, heard_copies, placed_to_end}
use Rattle.nx_combine.specs.Families.{CombinedCopy, Family, alone, combined as together_of}
use Rattle.nx_combine.specs.Families.{combined_at, families_after}
use Rattle.nx_combine.specs.private.Families.{combined_copies, combined_copy}
use Rattle.nx_combine.specs.Families.{given_by, has_family, joined_by, together}
use Rattle.nx_combine.specs.private.Families.{index_joined}
use Rattle.nx_combine.specs.Families.{combined_copies_holding, combined_copy_holding}
use Rattle.nx_combine.specs.PositionEnds.{closed, ending_by, raw_text_of}
use Rattle.nx_combine.specs.private.laws.Heard.{found_of}
use Rattle.nx_combine.proofs.lemmas.Closing.{found-end}
use Rattle.nx_log.proofs.lemmas.printed.Copies.{IsFoundText, IsGoodFound, ended_is}
use Rattle.nx_log.proofs.lemmas.printed.Copies.{found_to_end_are, less_is, open_is}
use Rattle.nx_log.proofs.lemmas.printed.Texts.{IsTextByte, text_is}
use Rattle.nx_watch.specs.Watch.{IsLoggable, PrintsLoggable}

-- ---- the text that positions give

raw_is : (positions : List Reception) → All IsTextByte (raw_text_of positions)
unfolding raw_text_of
raw_is positions = less_is (text positions Figures) (text_is positions Figures)

ending_is : (positions : List Reception) → IsFoundText (ending_by positions).text
unfolding ending_by
ending_is positions =
    let raw = raw_text_of positions in
    elim (ending_of raw) as (λ o. ending_of raw ≡ o
    → IsFoundText (unwrap_or o (closed raw)).text) [
      | Some ending ↦ λ e. ended_is raw ending (raw_is positions) e
      | None ↦ λ e. open_is raw (raw_is positions) e
    ] refl

-- ---- a combined copy

abbrev HasHeardText : HeardCopy → Type 0
HasHeardText heard = IsFoundText heard.copy.text

abbrev CanStand : CombinedCopy → Type 0
CanStand one = IsLoggable one.copy

loggable : (copy : TaggedCopy) → IsFoundText copy.text → copy.selected ≡ true → IsLoggable copy
loggable copy h selected =
    record { short = h.short; text = h.letters; selected = selected }

-- what a family gives of a copy, or the copy itself where that is better
combined-is : (positions : List Reception) (copy : TaggedCopy) → IsFoundText copy.text
    → copy.selected ≡ true → IsLoggable (together_of positions copy)
unfolding given_by
combined-is positions copy h selected = go (is_better copy (given_by positions copy))
  where
    go : (b : Bool) → IsLoggable (cond b copy (given_by positions copy))
    go true = loggable copy h selected
    go false = loggable (given_by positions copy) (ending_is positions) selected

joined-is : (heard : HeardCopy) → HasHeardText heard → heard.copy.selected ≡ true
    → (number : ℕ) (o : Option Family)
    → CanStand (option_map_or
    (λ family. together number (joined_by heard family) heard) o (alone None heard))
joined-is heard h selected number None = loggable heard.copy h selected
joined-is heard h selected number (Some family) =
    combined-is (joined_by heard family).positions heard.copy h selected

chosen-is : (families : List Family) (heard : HeardCopy) → HasHeardText heard
    → heard.copy.selected ≡ true → (o : Option ℕ)
    → CanStand (option_map_or (combined_at families heard) o
    (alone (Some (length families)) heard))
chosen-is families heard h selected None = loggable heard.copy h selected
chosen-is families heard h selected (Some index) =
    joined-is heard h selected (length families - 1 - index) (slice_get families index)

copy-is : (families : List Family) (heard : HeardCopy) → HasHeardText heard
    → heard.copy.selected ≡ true → CanStand (combined_copy families heard)
unfolding combined_copy_holding
copy-is families heard h selected = go (has_family heard)
  where
    go : (b : Bool) → CanStand (cond b (option_map_or (combined_at families heard)
        (index_joined families heard) (alone (Some (length families)) heard))
        (alone None heard))
    go true = chosen-is families heard h selected (index_joined families heard)
    go false = loggable heard.copy h selected

-- ---- all of them

if_selected-is : (families : List Family) (heard : HeardCopy) → HasHeardText heard → (b : Bool)
    → heard.copy.selected ≡ b
    → All CanStand (cond b (combined_copy families heard ∷ []) [])
if_selected-is families heard h true selected =
    All-cons CanStand (combined_copy families heard) [] (copy-is families heard h selected)
    (All-nil CanStand)
if_selected-is families heard h false selected = All-nil CanStand

copies-are : (families : List Family) (copies : List HeardCopy) → All HasHeardText copies
    → All CanStand (combined_copies families copies)
unfolding combined_copies_holding
copies-are families [] h = All-nil CanStand
copies-are families (heard ∷ copies) h =
    All-append CanStand _ (combined_copies (families_after families heard) copies)
    (if_selected-is families heard (All-head HasHeardText heard copies h) heard.copy.selected refl)
    (copies-are (families_after families heard) copies (All-tail HasHeardText heard copies h))

if_printed-is : (shown : Bool) (one : CombinedCopy) → CanStand one
    → All CanStand (cond shown (one ∷ []) [])
if_printed-is true one h = All-cons CanStand one [] h (All-nil CanStand)
if_printed-is false one h = All-nil CanStand

printed-are : (entries : List MemoryEntry) (before copies : List CombinedCopy)
    → All CanStand copies → All CanStand (printed_combined entries before copies)
unfolding printed_combined if_printed_combined
printed-are entries before [] h = All-nil CanStand
printed-are entries before (one ∷ copies) h =
    All-append CanStand _ (printed_combined
    (entries ++ entry_made_combined entries before one)
    (if_printed_combined entries before one ++ before) copies)
    (if_printed-is (is_printed_combined entries before one) one (All-head CanStand one copies h))
    (printed-are (entries ++ entry_made_combined entries before one)
    (if_printed_combined entries before one ++ before) copies (All-tail CanStand one copies h))

-- ---- the copies that were heard

heard-are : (first : Setting) (events : List Event) (copies : List PlacedCopy)
    → All IsGoodFound (found_of copies) → All HasHeardText (heard_copies first events copies)
unfolding heard_copies tag
heard-are first events [] h = All-nil HasHeardText
heard-are first events (copy ∷ copies) h =
    All-cons HasHeardText _ _ (All-head IsGoodFound copy.found (found_of copies) h)
    (heard-are first events copies (All-tail IsGoodFound copy.found (found_of copies) h))

pub combined-loggable : PrintsLoggable combined
combined-loggable start events log h =
    let bits = elements_among events in
    let placed = placed_to_end bits h.locks h.now in
    let found : All IsGoodFound (found_of placed) =
    All-same IsGoodFound (found_of placed) _ (found-end bits h.locks h.now)
    (found_to_end_are bits h.locks h.now) in
    All-same IsLoggable log _ h.printed
    (All-map IsLoggable (λ (one : CombinedCopy). one.copy) _
    (printed-are start.entries [] _
    (copies-are [] _ (heard-are (first_setting start) events placed found))))
