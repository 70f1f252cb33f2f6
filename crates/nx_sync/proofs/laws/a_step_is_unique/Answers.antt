use Rattle.nx_sync.proofs.lemmas.words.WordLists.{same_step}
use Rattle.nx_sync.proofs.laws.a_step_is_unique.Goals as goal

pub returns : goal.returns
returns c = same_step
