use Rattle.std.proofs.Common.{◌≡◌, ◌+◌, ◌-◌, ◌<◌, ◌≤◌, ◌^◌, ℕ, List}
use Rattle.nx_kept.specs.Disk.{OnlyReads}
use Rattle.nx_kept.specs.Kept.{first_byte}
use Rattle.nx_kept.specs.Taker.{TookSome}
use Rattle.nx_kept.proofs.lemmas.Scanning.{Reached}
use Rattle.nx_kept.proofs.scan.scan.Given as goal

abbrev pub invariant-gates : goal.invariant-gates
invariant-gates g l = record {
  in_range : l.gate < 2 ^ 63;
  lines : l.line ≤ l.gate + 1;
  faults : g.D.DiskFile.faults l.device ≡ g.D.DiskFile.faults l.fn.device;
  explained : (start : List ℕ) → g.D.DiskFile.explains start l.device
      → g.D.DiskFile.explains start l.fn.device;
  reads : (start : List ℕ) → OnlyReads (g.D.DiskFile.seen start) (g.D.DiskFile.may_leave start)
      g.D.DiskFile.moment (g.D.DiskFile.left_since start) l.fn.device l.device;
  reached : (start : List ℕ) → g.D.DiskFile.explains start l.device
      → Reached g.G.Grammar.is_record g.T.RecordTaker.takes (g.D.DiskFile.seen start l.fn.device)
      l.gate l.line l.fn.taker l.taker;
  first : (start : List ℕ) → g.D.DiskFile.explains start l.device → 0 < l.gate
      → l.first ≡ first_byte (g.D.DiskFile.seen start l.fn.device);
  took : TookSome g.T.RecordTaker.takes l.fn.taker l.taker;
}

abbrev pub decreases-gates : goal.decreases-gates
decreases-gates g l = 2 ^ 63 - l.gate
