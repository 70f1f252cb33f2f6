use Rattle.std.proofs.Common.{[]}
use Rattle.nx_combine.proofs.receiver.CombinedReceiver.starting.Goals as goal

pub returns-clause-stands : goal.returns-clause-stands
returns-clause-stands g c = λ start entries moment selection.
    c.beginning-receiver.ensures.stands [] start c.in-Ok.ensures.families c.in-Ok.ensures.printed
    entries moment selection
