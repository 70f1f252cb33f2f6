-- What only private contracts and proofs cite, beside CombinedPrinting (this profile).
use Rattle.std.specs.Prelude.{Bool}
use Rattle.std.specs.Prelude.{List}
use Rattle.nx_sync.specs.Locks.{Lock, Now}
use Rattle.nx_copies.specs.Events.{Event, Start}
use Rattle.nx_copies.specs.copies.FoundCopies.{TaggedCopy}
use Rattle.nx_combine.specs.CopyPositions.{PlacedCopy}
use Rattle.nx_combine.specs.Families.{most_families}
use Rattle.nx_combine.specs.CombinedPrinting.{printed_of_placed_holding, PrintsHolding}

-- the same as in CombinedPrinting, where 200 families are held
abbrev pub printed_of_placed : Start → List Event → List PlacedCopy → List TaggedCopy
printed_of_placed = printed_of_placed_holding most_families

abbrev pub PrintsCombined : (List Bool → List Lock → Now → List PlacedCopy) → Start → List Event
    → List TaggedCopy → Type 0
PrintsCombined = PrintsHolding most_families
