use Rattle.nx_station.proofs.lemmas.message_files.FileLaws.{no_fault, one_fault}
use Rattle.nx_station.proofs.laws.a_file_has_one_outcome.Goals as goal

pub returns-clause-messages : goal.returns-clause-messages
returns-clause-messages c = no_fault

pub returns-clause-fault : goal.returns-clause-fault
returns-clause-fault c = one_fault
