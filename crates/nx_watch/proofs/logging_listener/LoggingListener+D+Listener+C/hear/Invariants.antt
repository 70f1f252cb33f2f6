use Rattle.std.proofs.Common.{◌≡◌, ◌-◌, ◌≤◌, true, List, length, take}
use Rattle.nx_fec.specs.air_files.AirFile.{Line}
use Rattle.nx_receiver.specs.air_file_runs.Listen.{given_by}
use Rattle.nx_receiver.specs.Listener.{then_elements}
use Rattle.nx_watch.specs.private.LoggingListener.{KeepsHeard, LoggingTo, TakesLines, logging_to}
use Rattle.nx_watch.proofs.logging_listener.LoggingListener+D+Listener+C.hear.Given as goal

-- the first elements were heard
abbrev pub invariant-loop-at : goal.invariant-loop-at
invariant-loop-at g l = record {
  once : l.writer.failures ≤ 1;
  within : l.at ≤ length l.packed;
  failed : l.fn.self.keeper.has_failed ≡ true → l.self.keeper.has_failed ≡ true;
  heard : (start : LoggingTo g.row.D.Denot g.row.C.Denot g.row.W.Denot) (lines : List Line)
      → TakesLines g.C.ChannelReceiver.kind g.D.DiskFile g.W.Write.contents start
      (logging_to l.fn.self l.fn.writer) lines
      → KeepsHeard g.C.ChannelReceiver.kind g.D.DiskFile g.W.Write.contents start.logging l.self
      start.writer l.writer
      (then_elements (given_by lines) l.channel (take l.at l.packed));
}

abbrev pub decreases-loop-at : goal.decreases-loop-at
decreases-loop-at g l = length l.packed - l.at
