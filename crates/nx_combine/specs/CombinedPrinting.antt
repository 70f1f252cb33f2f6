-- Which combined copies are printed, which of them the memory keeps, and their log (this profile;
-- the number 00 and the share of 4 per cent are of ITU-R M.540). What is named `holding` takes
-- first how many families are held; the same name without that word is its case of 200.
use Rattle.std.specs.Prelude.{◌≡◌, ℕ, ◌==◌, Bool, false, ◌&&◌, ◌||◌, if◌then◌else◌}
use Rattle.std.specs.Prelude.{List, [], ◌∷◌, ◌++◌, map, Option, Some, is_some}
use Rattle.std.specs.List.{find}
use Rattle.std.specs.Option.{option_map_or}
use Rattle.nx_memory.specs.declared.memories.entry.MemoryEntry.{MemoryEntry}
use Rattle.nx_sync.specs.Locks.{IsNow, Lock, Now}
use Rattle.nx_copies.specs.Events.{Event, Start, elements_among, first_setting}
use Rattle.nx_copies.specs.copies.FoundCopies.{TaggedCopy}
use Rattle.nx_copies.specs.copies.Log.{Printing}
use Rattle.nx_copies.specs.copies.Printing.{entry_of, is_better, is_good, is_printed, is_remembered}
use Rattle.nx_combine.specs.CopyPositions.{PlacedCopy, ended_placed, heard_copies, placed_to_end}
use Rattle.nx_combine.specs.Families.{CombinedCopy, combined_copies_holding, most_families}

-- the two are of one family
abbrev pub are_of_one_family : CombinedCopy → CombinedCopy → Bool
are_of_one_family one other = same_number one.family other.family where
  same_number : Option ℕ → Option ℕ → Bool
  same_number (Some m) (Some n) = m == n
  same_number first second = false

-- it is better than the last one of its family of those that were printed before, which stand
-- newest first
unfoldable pub is_better_than_before : List CombinedCopy → CombinedCopy → Bool
is_better_than_before before one =
    option_map_or (λ last. is_better one.copy last.copy)
    (find (are_of_one_family one) before) false

-- A combined copy is printed, after these entries and these printed before, newest first, where a
-- copy is; and too where an entry of its identity is live, but it is better than the last one of
-- its family that was printed.
unfoldable pub is_printed_combined : List MemoryEntry → List CombinedCopy → CombinedCopy → Bool
is_printed_combined entries before one =
    is_printed entries one.copy
    || (is_remembered entries one.copy && is_better_than_before before one)

-- It is entered where it is printed, good, and has a family: it isn't numbered 00, and has not too
-- many positions.
unfoldable pub is_entered_combined : List MemoryEntry → List CombinedCopy → CombinedCopy → Bool
is_entered_combined entries before one =
    is_printed_combined entries before one && is_good one.copy && is_some one.family

-- the entry that is made of it, if one is
unfoldable pub entry_made_combined : List MemoryEntry → List CombinedCopy → CombinedCopy
    → List MemoryEntry
entry_made_combined entries before one =
    if is_entered_combined entries before one then entry_of one.copy ∷ [] else []

-- it, if it is printed
unfoldable pub if_printed_combined : List MemoryEntry → List CombinedCopy → CombinedCopy
    → List CombinedCopy
if_printed_combined entries before one =
    if is_printed_combined entries before one then one ∷ [] else []

-- the combined copies that are printed, in order, after these entries and these printed before,
-- newest first
unfoldable pub printed_combined : List MemoryEntry → List CombinedCopy → List CombinedCopy
    → List CombinedCopy
printed_combined entries before [] = []
printed_combined entries before (one ∷ later) =
    if_printed_combined entries before one
    ++ printed_combined (entries ++ entry_made_combined entries before one)
    (if_printed_combined entries before one ++ before) later

-- of the copies that were found, the combined copies that are printed
abbrev pub combined_of_placed_holding : ℕ → Start → List Event → List PlacedCopy
    → List CombinedCopy
combined_of_placed_holding held start events copies =
    printed_combined start.entries []
    (combined_copies_holding held [] (heard_copies (first_setting start) events copies))

-- of the copies that were found, what is printed of them, combined
abbrev pub printed_of_placed_holding : ℕ → Start → List Event → List PlacedCopy → List TaggedCopy
printed_of_placed_holding held start events copies =
    map (λ (one : CombinedCopy). one.copy)
    (printed_combined start.entries []
    (combined_copies_holding held [] (heard_copies (first_setting start) events copies)))

-- What is printed, combined, after these events of the copies that are `found` in their elements.
pub record PrintsHolding (held : ℕ) (found : List Bool → List Lock → Now → List PlacedCopy)
    (start : Start) (events : List Event) (log : List TaggedCopy)
    : Type 0 where
  pub locks : List Lock
  pub now : Now
  pub stands : IsNow (elements_among events) locks now
  pub printed : log
      ≡ printed_of_placed_holding held start events (found (elements_among events) locks now)

-- What is printed of the copies that have ended after these events.
abbrev pub HasPrintedHolding : ℕ → Start → List Event → List TaggedCopy → Type 0
HasPrintedHolding held start events log = PrintsHolding held ended_placed start events log

abbrev pub HasPrintedCombined : Start → List Event → List TaggedCopy → Type 0
HasPrintedCombined = HasPrintedHolding most_families

-- What is printed where these events are all: the end closes the copy that stands open.
abbrev pub PrintsHoldingToEnd : ℕ → Start → List Event → List TaggedCopy → Type 0
PrintsHoldingToEnd held start events log = PrintsHolding held placed_to_end start events log

abbrev pub PrintsCombinedToEnd : Start → List Event → List TaggedCopy → Type 0
PrintsCombinedToEnd = PrintsHoldingToEnd most_families

-- The last combined copy that is printed after these events, of the copies that are `found` in
-- their elements, comes to this copy, and is put together from so many sendings.
pub record PrintsLastHolding (held : ℕ) (found : List Bool → List Lock → Now → List PlacedCopy)
    (start : Start) (events : List Event) (copy : TaggedCopy) (sendings : ℕ)
    : Type 0 where
  pub locks : List Lock
  pub now : Now
  pub stands : IsNow (elements_among events) locks now
  pub earlier : List CombinedCopy
  pub last : CombinedCopy
  pub printed : combined_of_placed_holding held start events
      (found (elements_among events) locks now)
      ≡ earlier ++ last ∷ []
  pub comes_to : last.copy ≡ copy
  pub counted : last.sendings ≡ sendings

-- so after these events
abbrev pub HasPrintedLastHolding : ℕ → Start → List Event → TaggedCopy → ℕ → Type 0
HasPrintedLastHolding held start events copy sendings =
    PrintsLastHolding held ended_placed start events copy sendings

-- so where these events are all
abbrev pub PrintsLastHoldingToEnd : ℕ → Start → List Event → TaggedCopy → ℕ → Type 0
PrintsLastHoldingToEnd held start events copy sendings =
    PrintsLastHolding held placed_to_end start events copy sendings

-- what a receiver prints that takes several sendings together
abbrev pub combined_holding : ℕ → Printing
combined_holding held =
    record { so_far = HasPrintedHolding held; to_end = PrintsHoldingToEnd held }

abbrev pub combined : Printing
combined = combined_holding most_families
