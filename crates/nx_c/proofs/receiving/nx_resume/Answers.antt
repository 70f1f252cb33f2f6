use Rattle.std.proofs.Common.{OnOk, subst, ap, sym, ◌∙◌}
use Rattle.nx_receiver.specs.air_file_runs.State.{BeginsWith}
use Rattle.nx_c.specs.Calls.{HasResumed}
use Rattle.nx_c.proofs.lemmas.State.{in-rooms}
use Rattle.nx_c.proofs.receiving.nx_resume.Goals as goal
use Rattle.nx_c.proofs.receiving.nx_resume.Goals.{in-Ok, in-Err}

pub returns-clause-once : goal.returns-clause-once
returns-clause-once c = λ zero.
    let done = c.hand_out.ensures.done zero in
    let told = c.tell-status.ensures.done done.0 in
    let resumed = c.resume_over-resumed in
    in-rooms c.args.state.now c.args.air.now (told.2 ∙ c.deref.ensures.value)
    (done.2 ∙ c.deref-2.ensures.value)
    (elim c.match-resumed.branch [
      | in-Ok w ↦ subst (λ o. OnOk o (BeginsWith c.args.state.now (λ states more. HasResumed states
          c.args.air.now resumed.result.log.items resumed.result.left.items)))
          w.in-Ok.is resumed.ensures.ok
      | in-Err w ↦ absurd (w.resume_told-told.ensures.fails
          (ap (λ t. t.status) (sym w.told-is) ∙ told.0))
    ])
