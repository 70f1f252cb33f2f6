use Rattle.nx_left_on.proofs.lemmas.chains.Files.{last-stands}
use Rattle.nx_left_on.proofs.laws.a_log_keeps_what_its_watches_put.Goals as goal

pub returns : goal.returns
returns c log watches last chain = last-stands log watches last chain
