use Rattle.nx_left_on.proofs.lemmas.entries.Judging.{goes-on}
use Rattle.nx_left_on.proofs.lemmas.chains.Once.{whole-ended}
use Rattle.nx_left_on.proofs.laws.a_watch_goes_on_from_its_log.Goals as goal

pub returns : goal.returns
returns c = record { some = goes-on; ended = whole-ended }
