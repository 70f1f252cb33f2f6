use Rattle.nx_log.proofs.lemmas.runs.Remembering.{log_remembers, made_is_kept}
use Rattle.nx_log.proofs.laws.a_log_remembers_what_its_run_entered.Goals as goal

pub returns : goal.returns
returns c = record { made = made_is_kept; after = log_remembers }
