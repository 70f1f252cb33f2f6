use Rattle.std.proofs.Common.{Ok, subst}
use Rattle.nx_fec.specs.Transfers.{whole_input}
use Rattle.nx_receiver.specs.air_file_runs.State.{AnswersState}
use Rattle.nx_c.proofs.lemmas.State.{resumed-to, resumes-to}
use Rattle.nx_c.proofs.receiving.resume_over.Goals as goal

pub returns-in-Ok-clause-resumes : goal.returns-in-Ok-clause-resumes
returns-in-Ok-clause-resumes c =
    resumes-to c.args.state.now c.args.air.now c.go_on.result.log.items c.go_on.result.left.items
    c.in-Ok.states c.go_on.result.outcome
    (subst (λ r. AnswersState whole_input r.now (Ok c.in-Ok.states))
    c.new.ensures.inner c.in-Ok.ensures.reads.file) c.go_on.ensures

pub returns-in-Ok-clause-ok : goal.returns-in-Ok-clause-ok
returns-in-Ok-clause-ok c =
    resumed-to c.args.state.now c.args.air.now c.go_on.result.log.items c.go_on.result.left.items
    c.in-Ok.states c.go_on.result.outcome (returns-in-Ok-clause-resumes c)
