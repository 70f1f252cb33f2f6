use Rattle.std.proofs.Common.{◌≡◌, ◌-◌, drop, length}
use Rattle.nx_combine.specs.FamilyPlaces.{BelongsTo}
use Rattle.nx_handle.proofs.lemmas.Combining.{FedIn}
use Rattle.nx_handle.proofs.combining_place.next_printed_in.Given as goal

-- the first elements were heard, and nothing was printed
abbrev pub invariant-loop-heard : goal.invariant-loop-heard
invariant-loop-heard g l = record {
  fits : BelongsTo l.receiver.store (g.F.FamilyRoom.places l.families);
  room : length (g.F.FamilyRoom.places l.families)
      ≡ length (g.F.FamilyRoom.places l.fn.families);
  stays : g.F.FamilyRoom.vacant l.families ≡ g.F.FamilyRoom.vacant l.fn.families;
  fed : FedIn (length (g.F.FamilyRoom.places l.fn.families))
      (g.F.FamilyRoom.places l.fn.families) (g.F.FamilyRoom.places l.families) l.fn.receiver
      l.receiver (drop l.from l.packed) l.heard;
}

abbrev pub decreases-loop-heard : goal.decreases-loop-heard
decreases-loop-heard g l = length l.packed - l.from - l.heard
