use Rattle.std.proofs.Common.{◌≡◌, ◌≤◌, true, ℕ, List, ◌++◌, length}
use Rattle.std.specs.List.{All, AllZip}
use Rattle.nx_fec.specs.Transfers.{CountedDevice}
use Rattle.nx_log.specs.Logged.{IsLogged, IsLoggedAs}
use Rattle.nx_receiver.specs.Listener.{last_copies}
use Rattle.nx_copies.specs.copies.Shares.{MarkedCopy}
use Rattle.nx_watch.specs.private.Keeping.{KeepsWith}
use Rattle.nx_watch.specs.private.LoggingListener.{IsCopyInRange}
use Rattle.nx_watch.specs.declared.kept_log.keeper.Keeper.{Keeper}
use Rattle.nx_watch.proofs.logging_listener.keep_last.Given as goal

-- the first of the last copies were kept
abbrev pub invariant-entries : goal.invariant-entries
invariant-entries g l = record {
  once : l.writer.failures ≤ 1;
  range : All IsCopyInRange (last_copies l.last);
  failed : l.fn.keeper.has_failed ≡ true → l.keeper.has_failed ≡ true;
  kept : (start : Keeper g.row.D.Denot) (first : CountedDevice g.row.W.Denot)
      (texts : List (List ℕ)) → All IsLogged (last_copies l.fn.last)
      → KeepsWith g.D.DiskFile g.W.Write.contents start l.fn.keeper first l.fn.writer texts
      → (done : List MarkedCopy) × (more : List (List ℕ))
      × (last_copies l.fn.last ≡ done ++ last_copies l.last) × AllZip IsLoggedAs done more
      × KeepsWith g.D.DiskFile g.W.Write.contents start l.keeper first l.writer (texts ++ more);
}

abbrev pub decreases-entries : goal.decreases-entries
decreases-entries g l = length (last_copies l.last)
