use Rattle.std.proofs.Common.{rules}
use Rattle.nx_sync.proofs.lemmas.states.Pushes.{locked_by}
use Rattle.nx_sync.proofs.synchroniser.Synchroniser.is_locked.Goals as goal

-- the answer says whether a track is there
pub returns-clause-stands : goal.returns-clause-stands
returns-clause-stands c bits a = locked_by c.args.self.now _ (search rules) bits a
