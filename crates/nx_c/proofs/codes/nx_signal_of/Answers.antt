use Rattle.std.proofs.Common.{◌<◌, subst}
use Rattle.nx_c.proofs.lemmas.Signal.{number-lt}
use Rattle.nx_c.proofs.codes.nx_signal_of.Goals as goal

pub returns-in_default-clause-signal : goal.returns-in_default-clause-signal
returns-in_default-clause-signal c = λ signal e.
    let low = subst (λ n. n < 128) e (number-lt signal) in
    let none = c.in_default.ensures.range.1 low in cc
