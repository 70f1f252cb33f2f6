use Rattle.nx_program.specs.WatchRuns.{beside_of, streams_of}
use Rattle.nx_program.proofs.lemmas.outcomes.WatchRuns.{hands-back}
use Rattle.nx_program.proofs.watch_laws.a_run_that_hands_its_log_back_watched_it.Goals as goal

pub returns : goal.returns
returns g c arguments sendings run reported disk status named back answers =
    hands-back arguments
    (streams_of g.F.LogFiles.gives g.F.Disk.DiskFile g.R.Read.remaining g.W.Write.contents
    g.E.Write.contents run)
    (beside_of g.F.LogFiles.gives g.F.Disk.DiskFile g.R.Read.remaining g.W.Write.contents
    g.E.Write.contents run)
    reported sendings run.name run.moment disk status named back answers
