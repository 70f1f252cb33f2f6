use Rattle.nx_sync.proofs.lemmas.words.Releases.{stands_longer}
use Rattle.nx_sync.proofs.laws.a_lock_stands_on.Goals as goal

pub returns : goal.returns
returns c = stands_longer
