use Rattle.nx_left_on.proofs.lemmas.shortened.Choosing.{stays-so}
use Rattle.nx_left_on.proofs.shortening.a_shortened_log_stays_so.Goals as goal

pub returns : goal.returns
returns c = stays-so
