use Rattle.nx_program.specs.KnownStreams.{beside_in, streams_in}
use Rattle.nx_program.proofs.lemmas.outcomes.KnownStreams.{fault-known, heard-status, success-known}
use Rattle.nx_program.proofs.known_streams.a_run_that_listens_writes_the_log_of_its_bytes.Goals as goal

pub returns : goal.returns
returns g c = record {
  success = λ arguments sendings run input held.
      success-known arguments sendings (streams_in g.R.Read.remaining g.W.Write.contents run)
      (beside_in g.F.LogFiles.gives g.F.Disk.DiskFile g.E.Write.contents run) input held;
  fault = λ arguments sendings run input held.
      fault-known arguments sendings (streams_in g.R.Read.remaining g.W.Write.contents run)
      (beside_in g.F.LogFiles.gives g.F.Disk.DiskFile g.E.Write.contents run) input held;
  status = λ arguments sendings run status.
      heard-status arguments sendings (streams_in g.R.Read.remaining g.W.Write.contents run)
      (beside_in g.F.LogFiles.gives g.F.Disk.DiskFile g.E.Write.contents run) status;
}
