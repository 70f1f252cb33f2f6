use Rattle.nx_copies.proofs.lemmas.printing.Log.{log_begins, logs_join}
use Rattle.nx_promises.proofs.logs_go_on.Goals as goal

pub returns : goal.returns
returns c = record { begins = log_begins; join = logs_join }
