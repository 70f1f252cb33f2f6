use Rattle.nx_memory.proofs.lemmas.Tables.{known_by_last}
use Rattle.nx_memory.proofs.laws.the_last_entry_tells.Goals as goal

pub returns : goal.returns
returns c = λ content identity moment is. known_by_last identity moment content is.in_turn
