use Rattle.std.proofs.Common.{inl, subst, sym}
use Rattle.std.proofs.KnownBytes.{Appends-nil}
use Rattle.nx_fec.specs.Transfers.{devices}
use Rattle.nx_program.specs.Program.{RunsOverInput}
use Rattle.nx_program.specs.WatchCommand.{notices_between}
use Rattle.nx_program.proofs.program.run_over_input.Goals as goal

pub returns-in-Kept : goal.returns-in-Kept
returns-in-Kept g c =
    let d = devices g.R.Read.remaining g.W.Write.contents c.args.reader
    c.kept_run-outcome.new.reader c.args.writer.now c.kept_run-outcome.new.writer in
    let n = notices_between g.E.Write.contents c.args.faults.now c.args.faults.now in
    subst (λ r. RunsOverInput c.args.query.now c.args.form r d n c.kept_run-outcome.result)
    (sym c.in-Kept.is) (
      c.kept_run-outcome.ensures,
      inl (c.requires.faults, Appends-nil (g.E.Write.contents c.args.faults.now.inner)),
    )
