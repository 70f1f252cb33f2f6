use Rattle.nx_program.proofs.lemmas.outcomes.WatchRuns.{empty-stands, runs-keep-once}
use Rattle.nx_program.proofs.watch_laws.a_message_stands_once_in_the_log_of_runs.Goals as goal

pub returns : goal.returns
returns g c = record {
  once = λ log file runs fresh stands are.
      runs-keep-once g.F.LogFiles.gives g.F.Disk.DiskFile g.R.Read.remaining g.W.Write.contents
      g.E.Write.contents fresh log file runs stands are;
  from_nothing = empty-stands;
}
