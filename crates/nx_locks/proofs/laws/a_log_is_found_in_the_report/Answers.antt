use Rattle.nx_locks.proofs.lemmas.FoundCopies.{copy-among, text-stands}
use Rattle.nx_locks.proofs.laws.a_log_is_found_in_the_report.Goals as goal

pub returns : goal.returns
returns c = record { printed = copy-among; shown = text-stands }
