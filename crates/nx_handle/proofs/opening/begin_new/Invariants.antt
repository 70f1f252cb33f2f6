use Rattle.nx_copies.specs.Events.{none_refused}
use Rattle.std.proofs.Common.{[]}
use Rattle.nx_handle.specs.PlaceKinds.{start_with}
use Rattle.nx_handle.specs.private.Opening.{ShutSame}
use Rattle.nx_handle.proofs.lemmas.New.{FirstBegin}
use Rattle.nx_handle.proofs.opening.begin_new.Given as goal

-- the channels so far have begun
abbrev pub invariant-loop-at : goal.invariant-loop-at
invariant-loop-at g l = record {
  same : ShutSame g.P.KeptPlace.kind l.fn.places l.places;
  begun : FirstBegin g.P.KeptPlace.kind l.places (start_with [] 0 none_refused) l.at;
}
