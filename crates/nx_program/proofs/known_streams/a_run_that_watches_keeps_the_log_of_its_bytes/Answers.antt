use Rattle.nx_program.specs.KnownStreams.{beside_in, streams_in}
use Rattle.nx_program.proofs.lemmas.outcomes.KnownStreams.{watch-known}
use Rattle.nx_program.proofs.known_streams.a_run_that_watches_keeps_the_log_of_its_bytes.Goals as goal

pub returns : goal.returns
returns g c arguments sendings name moment run input held start disk entries =
    watch-known arguments sendings name moment
    (streams_in g.R.Read.remaining g.W.Write.contents run)
    (beside_in g.F.LogFiles.gives g.F.Disk.DiskFile g.E.Write.contents run) input held start disk
    entries
