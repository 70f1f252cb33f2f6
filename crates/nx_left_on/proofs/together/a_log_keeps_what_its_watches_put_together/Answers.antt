use Rattle.nx_left_on.proofs.lemmas.combined.Chains.{by-last-stands}
use Rattle.nx_left_on.proofs.together.a_log_keeps_what_its_watches_put_together.Goals as goal

pub returns : goal.returns
returns c = by-last-stands
