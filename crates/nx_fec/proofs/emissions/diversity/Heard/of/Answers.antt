use Rattle.std.proofs.Common.{sym, ap, ◌∙◌}
use Rattle.std.proofs.lemmas.Bool.{false≢true}
use Rattle.nx_fec.specs.emissions.Pairing.{counts_as}
use Rattle.nx_fec.proofs.lemmas.emissions.Pairing.{counts_as-number_of_signal, counts_as-wrong}
use Rattle.nx_fec.proofs.emissions.diversity.Heard.of.Goals as goal

pub returns-in-Some-clause-counts : goal.returns-in-Some-clause-counts
returns-in-Some-clause-counts c =
    sym (counts_as-number_of_signal c.in-Some.signal) ∙ ap counts_as c.in-Some.ensures.value

pub returns-in-None-clause-counts : goal.returns-in-None-clause-counts
returns-in-None-clause-counts c =
    sym (counts_as-wrong c.args.word (λ h. absurd (false≢true (c.in-None.ensures.signals.1 h))))
