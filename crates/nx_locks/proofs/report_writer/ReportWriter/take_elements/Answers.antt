use Rattle.std.proofs.Common.{◌≡◌, ◌∙◌, ap, sym, true}
use Rattle.nx_receiver.specs.air_file_runs.Listen.{has_moment}
use Rattle.nx_locks.specs.private.Showing.{Showing}
use Rattle.nx_locks.proofs.lemmas.Taking.{element_line, nothing_more, skipped_line}
use Rattle.nx_locks.proofs.report_writer.ReportWriter.take_elements.Goals as goal

pub returns-then-is_on_0 : goal.returns-then-is_on_0
returns-then-is_on_0 c = λ lines given h few.
    let some : has_moment lines ≡ true =
    sym (ap (λ (s : Showing). s.has_moment) c.self.view_is ∙ h.has_moment) ∙ c.if-not-self.false in
    element_line c.args.self.now c.hear.new.self lines c.args.mark c.args.elements.now given
    (sym c.is_on_0.ensures ∙ c.if-is_on_0.true) h some c.hear.ensures.hears few

pub returns-else-is_on_0 : goal.returns-else-is_on_0
returns-else-is_on_0 c = λ lines given h few.
    let some : has_moment lines ≡ true =
    sym (ap (λ (s : Showing). s.has_moment) c.self.view_is ∙ h.has_moment) ∙ c.if-not-self.false in
    nothing_more c.args.self.now _ given c.requires
    (skipped_line c.args.self.now lines c.args.mark c.args.elements.now given
    (sym c.is_on_0.ensures ∙ c.if-is_on_0.false) h some)
