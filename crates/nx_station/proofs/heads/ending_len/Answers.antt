use Rattle.std.proofs.Common.{length, sym, ap}
use Rattle.nx_station.specs.Broadcast.{ending}
use Rattle.nx_station.proofs.heads.ending_len.Goals as goal

pub returns-in-Letters : goal.returns-in-Letters
unfolding ending
returns-in-Letters c = sym (ap (λ s. length (ending s)) c.in-Letters.is)

pub returns-in-Figures : goal.returns-in-Figures
unfolding ending
returns-in-Figures c = sym (ap (λ s. length (ending s)) c.in-Figures.is)
