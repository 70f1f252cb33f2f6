-- What a watch answers of what ended its lines.
use Rattle.std.specs.Prelude.{ℕ, Result, Ok, Err}
use Rattle.nx_kept.specs.declared.fault.OpenFault.{OpenFault}
use Rattle.nx_kept.specs.declared.fault.OpenFault.TheVariants as opening
use Rattle.nx_watch.specs.declared.lines.line_effects.LinesWatched.{LinesWatched}
use Rattle.nx_watch.specs.declared.watch_report.WatchReport.{WatchReport}
use Rattle.nx_watch.specs.declared.watch_fault.WatchFault.{WatchFault}
use Rattle.nx_watch.specs.declared.watch_fault.WatchFault.TheVariants.{Open, Damaged, Disk, Memory}

-- where the disk didn't fail, and so many entries were put
abbrev pub answered : Result LinesWatched WatchFault → ℕ → Result WatchReport WatchFault
answered (Ok counts) put = Ok (record {
  lines = counts.lines;
  without_effect = counts.without_effect;
  first_without_effect = counts.first_without_effect;
  put = put;
})
answered (Err fault) put = Err fault

-- why a watch can't begin, where the log can't be opened
abbrev pub fault_answered : OpenFault → WatchFault
fault_answered opening.Read = Open
fault_answered opening.Disk = Disk
fault_answered (opening.Damaged line first) = Damaged line first
fault_answered opening.Memory = Memory
