-- The rings in which families lie, newest first, and what was printed last of each.
use Rattle.std.specs.Prelude.{◌≡◌, ◌≤◌, Option, length}
use Rattle.circular_buffer.specs.Buffer.{Buffer}
use Rattle.nx_copies.specs.declared.entry.EntryHead.{EntryHead}
use Rattle.nx_combine.specs.Families.{Family, most_families}

-- each has room for 200 families, and no more
pub record AreHeld (families : Buffer Family) (printed : Buffer (Option EntryHead)) : Type 0 where
  pub capacity : families.capacity ≡ most_families
  pub few : length families.items ≤ most_families
  pub as_many : printed.capacity ≡ most_families
