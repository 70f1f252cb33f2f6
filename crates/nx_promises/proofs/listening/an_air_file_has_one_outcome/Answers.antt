use Rattle.nx_promises.proofs.lemmas.listening.Outcomes.{first_fault-taken, no-first_fault, one-first_fault}
use Rattle.nx_promises.proofs.listening.an_air_file_has_one_outcome.Goals as goal

pub returns : goal.returns
returns c = record { fault = one-first_fault; log = no-first_fault; written = first_fault-taken }
