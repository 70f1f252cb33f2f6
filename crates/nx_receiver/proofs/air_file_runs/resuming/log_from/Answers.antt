use Rattle.nx_fec.specs.Transfers.{devices}
use Rattle.nx_receiver.proofs.lemmas.state.Going.{logs-all}
use Rattle.nx_receiver.proofs.air_file_runs.resuming.log_from.Goals as goal

pub returns-in-Ok-clause-resumes : goal.returns-in-Ok-clause-resumes
returns-in-Ok-clause-resumes g c =
    logs-all (devices g.R.Read.remaining g.W.Write.contents c.args.reader.now
    c.listen_from.new.reader c.args.writer.now c.listen_from.new.writer) c.args.saved.now
    c.in-Ok.report c.in-Ok.ensures.listens.listens.run
