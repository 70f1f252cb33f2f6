use Rattle.nx_sync.proofs.lemmas.words.Releases.{kept}
use Rattle.nx_sync.proofs.laws.a_good_lock_is_kept.Goals as goal

pub returns : goal.returns
returns c = kept
