use Rattle.std.proofs.Common.{◌≡◌, ◌-◌, ◌≤◌, List, ◌++◌, length, take}
use Rattle.nx_copies.specs.Events.{Event, Start, elements}
use Rattle.nx_receiver.specs.Receiver.{Stands}
use Rattle.nx_copies.specs.copies.FoundCopies.{TaggedCopy}
use Rattle.nx_example.proofs.hearing.hear.Given as goal

-- no write has failed, and the receiver stands after the first elements
abbrev pub invariant-loop-at : goal.invariant-loop-at
invariant-loop-at g l = record {
  within : l.at ≤ length l.bits;
  unfailed : l.log.failures ≡ 0;
  heard : (start : Start) (history : List Event) (told : List TaggedCopy)
      → Stands g.M.Recall.content start l.fn.receiver history told
      → (more : List TaggedCopy)
      × Stands g.M.Recall.content start l.receiver (history ++ elements (take l.at l.bits))
      (told ++ more);
}

abbrev pub decreases-loop-at : goal.decreases-loop-at
decreases-loop-at g l = length l.bits - l.at
