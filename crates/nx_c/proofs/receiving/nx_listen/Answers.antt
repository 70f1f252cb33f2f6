use Rattle.std.proofs.Common.{arith}
use Rattle.std.proofs.lemmas.Grind.{common_steps}
use Rattle.std.proofs.Common.{ap, sym, ◌∙◌, subst}
use Rattle.nx_fec.specs.Transfers.{whole_input}
use Rattle.nx_receiver.proofs.lemmas.listening.Once.{printed-once}
use Rattle.nx_receiver.specs.air_file_runs.Listen.{AnswersListening}
use Rattle.nx_receiver.specs.air_file_runs.ListenOnce.{HasPrintedOnce}
use Rattle.nx_copies.specs.copies.Shares.{all_at_zero}
use Rattle.nx_c.proofs.lemmas.State.{moved, told}
use Rattle.nx_c.proofs.receiving.nx_listen.Goals as goal
use Rattle.nx_c.proofs.receiving.nx_listen.Goals.{in-Ok, in-Err}

pub returns-clause-once : goal.returns-clause-once
returns-clause-once c = λ zero.
    let done = c.tell.ensures.done zero in
    let old = ap (λ v. v.items) c.new-writer.ensures.inner ∙ c.new.ensures.items in
    let new = ap (λ v. v.items) (sym c.into_inner.ensures)
    ∙ sym (done.2 ∙ c.deref.ensures.value) in
    let read = ap (λ r. r.now) c.new-2.ensures.inner in
    elim c.match-listen.branch [
      | in-Ok w ↦
          let run = subst (λ o. AnswersListening all_at_zero whole_input
          (told c.new-writer.result.inner.items c.listen.new.writer.inner.items) o
          c.new-2.result.inner.now) w.in-Ok.is c.listen.ensures.listens.run.file in
          moved (HasPrintedOnce all_at_zero) old new read
          (printed-once all_at_zero _ _ _ run.1)
      | in-Err w ↦ absurd (w.listen_told-told.ensures.fails
          (ap (λ t. t.status) (sym w.told-is) ∙ done.0))
    ]

pub returns-clause-listens : goal.returns-clause-listens
returns-clause-listens c = grind (arith, common_steps)

pub returns-clause-log : goal.returns-clause-log
returns-clause-log c = grind (arith, common_steps)
