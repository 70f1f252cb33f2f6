use Rattle.std.proofs.Common.{◌≡◌, ◌∙◌, ap₂, sym}
use Rattle.nx_copies.specs.Events.{first_setting}
use Rattle.nx_copies.specs.hearing.CopyHearing.{in_force}
use Rattle.nx_copies.specs.hearing.CopyTaker.{hearer_of}
use Rattle.nx_copies.proofs.lemmas.copy_hearer.Hears.{nothing_heard}
use Rattle.nx_receiver.proofs.lemmas.receiver.Printing.{begins}
use Rattle.nx_receiver.proofs.receiver.Receiver.starting.Goals as goal

pub returns-clause-stands : goal.returns-clause-stands
returns-clause-stands g c start entries moment selection =
    let hearer = hearer_of c.hunting.result c.new.result in
    let force : in_force hearer ≡ first_setting start =
    ap₂ (λ m r. record { moment = m; refused = r }) (c.new.ensures.moment ∙ sym moment)
    (c.new.ensures.selection ∙ sym selection) in
    begins g.M.Recall.content start c.args.memory hearer
    (λ first. nothing_heard first hearer c.hunting.ensures.stands c.new.ensures.fresh) force entries
    c.newest.ensures.bounded
