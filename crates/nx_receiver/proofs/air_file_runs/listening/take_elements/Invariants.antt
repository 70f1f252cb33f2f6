use Rattle.std.proofs.Common.{◌≡◌, ◌-◌, ◌≤◌, ℕ, Option, List, [], length, take}
use Rattle.nx_fec.specs.air_files.LineRuns.{HasGiven}
use Rattle.nx_copies.specs.copies.Shares.{Given, Starts}
use Rattle.nx_receiver.specs.Listener.{then_elements}
use Rattle.nx_receiver.specs.private.Listener.{IsHearingBy}
use Rattle.nx_receiver.proofs.air_file_runs.listening.take_elements.Given as goal

-- the first elements were heard
abbrev pub invariant-loop-at : goal.invariant-loop-at
invariant-loop-at g l = record {
  none : l.writer.failures ≡ 0;
  within : l.at ≤ length l.packed;
  moment : l.listener.has_moment ≡ l.fn.listener.has_moment;
  heard : (starts : Starts) (old : Option (List ℕ)) (given : List Given)
      → IsHearingBy g.C.ChannelReceiver.kind starts l.fn.listener (then_elements given l.channel [])
      (HasGiven old (g.W.Write.contents l.fn.writer.inner) l.fn.batch)
      → IsHearingBy g.C.ChannelReceiver.kind starts l.listener
      (then_elements given l.channel (take l.at l.packed))
      (HasGiven old (g.W.Write.contents l.writer.inner) l.batch);
}

abbrev pub decreases-loop-at : goal.decreases-loop-at
decreases-loop-at g l = length l.packed - l.at
