use Rattle.nx_locks.proofs.lemmas.OneReport.{one_of_file, one_of_lines}
use Rattle.nx_locks.proofs.laws.a_file_has_one_report.Goals as goal

pub returns : goal.returns
returns c = record { file = one_of_file; lines = one_of_lines }
