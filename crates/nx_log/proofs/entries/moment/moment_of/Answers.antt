use Rattle.nx_log.proofs.lemmas.beginnings.Times.{not_lacked}
use Rattle.nx_log.proofs.entries.moment.moment_of.Goals as goal

pub returns-in_default-clause-none : goal.returns-in_default-clause-none
returns-in_default-clause-none c = λ moment small shown.
    not_lacked c.args.text.now c.in_default.field-0 c.in_default.ensures.lacks moment
    (record { in_range = small; shown = shown })
