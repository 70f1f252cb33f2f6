use Rattle.std.proofs.Common.{rules}
use Rattle.nx_sync.proofs.lemmas.words.WordLimits.{limit_by}
use Rattle.nx_sync.proofs.synchroniser.Synchroniser.is_between_words.Goals as goal

pub returns-in-None-clause-stands : goal.returns-in-None-clause-stands
returns-in-None-clause-stands c bits a = limit_by c.args.self.now _ (search rules) bits a

pub returns-in-Some-clause-stands : goal.returns-in-Some-clause-stands
returns-in-Some-clause-stands c bits a = limit_by c.args.self.now _ (search rules) bits a
