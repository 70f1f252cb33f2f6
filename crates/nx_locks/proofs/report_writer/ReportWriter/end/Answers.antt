use Rattle.std.proofs.Common.{◌≡◌, true, false, sym, ap, ◌∙◌, subst}
use Rattle.nx_sync.specs.declared.step.Change.TheVariants.{Locked}
use Rattle.nx_locks.specs.private.Taker.{Closes, Taking}
use Rattle.nx_locks.proofs.lemmas.Showing.{ends_shown}
use Rattle.nx_locks.proofs.report_writer.ReportWriter.end.Goals as goal
use Rattle.nx_locks.proofs.report_writer.ReportWriter.end.Goals.{then-is_locked, else-is_locked}

pub returns : goal.returns
returns c = rw (← c.self.view_is) (
    let i = c.self.inside in
    let now = c.if-is_locked.self-inside in
    record {
      ends = ends_shown i.synchroniser now.synchroniser i.taker c.clear.new.self now.taker
          c.end.new.self i.has_moment c.end.result c.is_locked.result c.clear.ensures
          c.is_locked.ensures.stands
          (λ is. elim c.if-is_locked.branch [
            | then-is_locked w ↦
                subst (λ (t : Taking). Closes c.clear.new.self t Locked)
                (sym (ap (λ k. k.taker) w.self-inside-is)) w.close.ensures.closes
            | else-is_locked w ↦
                absurd (let both : true ≡ false = sym is ∙ w.if-is_locked.false in cc)
          ])
          (λ is. elim c.if-is_locked.branch [
            | then-is_locked w ↦
                absurd (let both : true ≡ false = sym w.if-is_locked.true ∙ is in cc)
            | else-is_locked w ↦ ap (λ k. k.taker) w.self-inside-is
          ])
          c.end.ensures.line c.end.ensures.counts;
    })
