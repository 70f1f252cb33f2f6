use Rattle.std.proofs.Common.{◌≡◌}
use Rattle.nx_program.specs.WatchRuns.{CouldLeave}
use Rattle.nx_program.proofs.lemmas.outcomes.WatchRuns.{comes-behind}
use Rattle.nx_program.proofs.watch_laws.what_is_handed_in_could_be_left_before.Goals as goal

pub returns : goal.returns
returns g c = record {
  behind = λ before run left opens all.
      comes-behind g.F.LogFiles.gives g.F.Disk.DiskFile g.R.Read.remaining g.W.Write.contents
      g.E.Write.contents
      (CouldLeave g.F.LogFiles.gives g.F.Disk.DiskFile g.R.Read.remaining g.W.Write.contents
      g.E.Write.contents before) run left opens all run.ended;
  first = λ file run left opens all.
      comes-behind g.F.LogFiles.gives g.F.Disk.DiskFile g.R.Read.remaining g.W.Write.contents
      g.E.Write.contents (λ other. other ≡ file) run left opens all run.ended;
}
