use Rattle.nx_handle.specs.private.Moments.{MomentsTaken}
use Rattle.nx_handle.proofs.opening.set_moments.Given as goal

-- the channels so far took the moment
abbrev pub invariant-loop-at : goal.invariant-loop-at
invariant-loop-at g l =
    record { taken : MomentsTaken g.P.KeptPlace.kind l.moment l.fn.places l.places l.at }
