use Rattle.std.proofs.Common.{refl}
use Rattle.nx_fec.specs.Transfers.{devices}
use Rattle.nx_receiver.proofs.lemmas.state.Going.{saves-all, saves-some}
use Rattle.nx_receiver.proofs.air_file_runs.resuming.save_from.Goals as goal

pub returns-in-Ok-write_state-clause-resumes : goal.returns-in-Ok-write_state-clause-resumes
returns-in-Ok-write_state-clause-resumes g c =
    saves-all (devices g.R.Read.remaining g.W.Write.contents c.args.reader.now
    c.listen_unlogged.new.reader c.args.writer.now c.write_state.new.writer) c.args.saved.now
    c.in-Ok.report c.in-Ok.left c.in-Ok.ensures.listens c.in-Ok-write_state.ensures.sound
    c.in-Ok-write_state.ensures.ok c.in-Ok-write_state.ensures.counts.none

pub returns-in-Err-write_state-clause-resumes : goal.returns-in-Err-write_state-clause-resumes
returns-in-Err-write_state-clause-resumes g c =
    saves-some (devices g.R.Read.remaining g.W.Write.contents c.args.reader.now
    c.listen_unlogged.new.reader c.args.writer.now c.write_state.new.writer) c.args.saved.now
    c.in-Ok.report c.in-Ok.left c.in-Err-write_state.fault.written c.in-Ok.ensures.listens
    c.in-Err-write_state.ensures.sound c.in-Err-write_state.ensures.err
    (c.in-Err-write_state.ensures.counts.failed.0 refl)
