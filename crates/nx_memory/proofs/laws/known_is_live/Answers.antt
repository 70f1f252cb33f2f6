use Rattle.nx_memory.proofs.lemmas.Known.{live_from_known, known_from_live}
use Rattle.nx_memory.proofs.laws.known_is_live.Goals as goal

pub returns : goal.returns
returns c = λ identity moment entries.
    (live_from_known identity moment entries, known_from_live identity moment entries)
