use Rattle.std.proofs.Common.{◌≡◌}
use Rattle.nx_handle.proofs.lemmas.Places.{first_shut}
use Rattle.nx_handle.proofs.places.close_all.Given as goal

-- the places so far are shut
abbrev pub invariant-loop-place : goal.invariant-loop-place
invariant-loop-place g l =
    l.places ≡ first_shut g.P.KeptPlace.kind.shut l.place-index l.fn.places
