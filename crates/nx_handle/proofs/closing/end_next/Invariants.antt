use Rattle.std.proofs.Common.{◌≡◌, List, length}
use Rattle.nx_copies.specs.copies.Shares.{MarkedCopy}
use Rattle.nx_handle.specs.Life.{EndsWith}
use Rattle.nx_handle.specs.Places.{KeepsRoom}
use Rattle.nx_handle.proofs.lemmas.Closing.{FirstGone}
use Rattle.nx_handle.proofs.closing.end_next.Given as goal

-- the channels so far have ended, and printed nothing
abbrev pub invariant-loop-at : goal.invariant-loop-at
invariant-loop-at g l = record {
  channels : length l.places ≡ length l.fn.places;
  rooms : KeepsRoom g.P.KeptPlace.kind l.fn.places l.places;
  same_log : l.log ≡ l.fn.log;
  ended : FirstGone g.P.KeptPlace.kind l.places l.at;
  behind : (left : List MarkedCopy) → EndsWith g.P.KeptPlace.kind l.places left
      → EndsWith g.P.KeptPlace.kind l.fn.places left;
}
