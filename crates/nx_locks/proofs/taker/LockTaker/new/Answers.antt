use Rattle.std.proofs.Common.{refl}
use Rattle.nx_locks.proofs.lemmas.Ends.{nothing_taken_yet}
use Rattle.nx_locks.proofs.taker.LockTaker.new.Goals as goal

pub returns-clause-shows : goal.returns-clause-shows
returns-clause-shows c = nothing_taken_yet _ c.new.ensures.fresh refl refl refl
