use Rattle.std.proofs.Common.{sym, subst}
use Rattle.nx_fec.specs.Transfers.{devices}
use Rattle.nx_receiver.specs.air_file_runs.Resume.{AnswersResuming, ReadStateAlone, ResumesBy}
use Rattle.nx_receiver.specs.declared.air_file_runs.resume_fault.Want.TheVariants.{Log, State}
use Rattle.nx_receiver.proofs.lemmas.state.Behind.{read-alone, resumes-behind}
use Rattle.nx_receiver.proofs.air_file_runs.resuming.resume.Goals as goal

pub returns-in-Log-clause-resumes : goal.returns-in-Log-clause-resumes
returns-in-Log-clause-resumes g c =
    let remaining = g.R.Read.remaining in
    let contents = g.W.Write.contents in
    let read = read-alone remaining c.args.reader.now c.read_state.new.reader c.in_ok-states.states
    c.in_ok-states.ensures.reads in
    subst (λ want. ResumesBy (AnswersResuming want) want (devices remaining contents
    c.args.reader.now c.log_from.new.reader c.args.writer.now c.log_from.new.writer)
    c.log_from.result) (sym c.in-Log.is)
    (resumes-behind remaining contents c.args.reader.now c.read_state.new.reader
    c.log_from.new.reader c.args.writer.now c.log_from.new.writer c.in_ok-states.states Log
    c.log_from.result read c.log_from.ensures.resumes)

pub returns-in-Log-clause-memory : goal.returns-in-Log-clause-memory
returns-in-Log-clause-memory g c = λ error e.
    let remaining = g.R.Read.remaining in
    let read = read-alone remaining c.args.reader.now c.read_state.new.reader c.in_ok-states.states
    c.in_ok-states.ensures.reads in
    let kept = c.log_from.ensures.memory error e in (
      c.in_ok-states.states,
      subst (λ reader. ReadStateAlone remaining c.args.reader.now reader c.in_ok-states.states)
          (sym kept.0) read,
      kept.1,
    )

pub returns-in-State-clause-resumes : goal.returns-in-State-clause-resumes
returns-in-State-clause-resumes g c =
    let remaining = g.R.Read.remaining in
    let contents = g.W.Write.contents in
    let read = read-alone remaining c.args.reader.now c.read_state.new.reader c.in_ok-states.states
    c.in_ok-states.ensures.reads in
    subst (λ want. ResumesBy (AnswersResuming want) want (devices remaining contents
    c.args.reader.now c.save_from.new.reader c.args.writer.now c.save_from.new.writer)
    c.save_from.result) (sym c.in-State.is)
    (resumes-behind remaining contents c.args.reader.now c.read_state.new.reader
    c.save_from.new.reader c.args.writer.now c.save_from.new.writer c.in_ok-states.states State
    c.save_from.result read c.save_from.ensures.resumes)

pub returns-in-State-clause-memory : goal.returns-in-State-clause-memory
returns-in-State-clause-memory g c = λ error e.
    let remaining = g.R.Read.remaining in
    let read = read-alone remaining c.args.reader.now c.read_state.new.reader c.in_ok-states.states
    c.in_ok-states.ensures.reads in
    let kept = c.save_from.ensures.memory error e in (
      c.in_ok-states.states,
      subst (λ reader. ReadStateAlone remaining c.args.reader.now reader c.in_ok-states.states)
          (sym kept.0) read,
      kept.1,
    )
