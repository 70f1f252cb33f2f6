use Rattle.nx_program.proofs.lemmas.outcomes.WatchRuns.{runs-keep-whole}
use Rattle.nx_program.proofs.watch_laws.a_message_stands_whole_in_the_log_of_runs.Goals as goal

pub returns : goal.returns
returns g c log file runs fresh stands are =
    runs-keep-whole g.F.LogFiles.gives g.F.Disk.DiskFile g.R.Read.remaining g.W.Write.contents
    g.E.Write.contents fresh log file runs stands are
