use Rattle.std.proofs.Common.{◌∙◌, ◌++◌, ℕ, ap, subst}
use Rattle.nx_locks.specs.Run.{elements_on_0, moments_on_0}
use Rattle.nx_locks.specs.private.Showing.{HasEnded, Showing}
use Rattle.nx_locks.proofs.report_writer.ReportWriter.close.Goals as goal

pub returns-clause-closed : goal.returns-clause-closed
returns-clause-closed c = λ lines given h.
    let bits = elements_on_0 lines in
    let moments = moments_on_0 lines in
    let r = subst (λ (m : ℕ). HasEnded bits moments m (given ++ c.end-locks.new.self.taker.shown)
    c.end-locks.result) h.moment (c.end-locks.ensures.ends bits moments given h.shows) in
    record {
      report = r.report;
      elements = c.elements-elements.ensures
          ∙ ap (λ (s : Showing). s.taker.elements) c.self.view_is ∙ h.shows.taker.elements;
      locks = r.locks;
      copies = r.copies;
    }
