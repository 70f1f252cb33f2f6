use Rattle.nx_log.proofs.lemmas.beginnings.Wholes.{none_begins}
use Rattle.nx_log.proofs.entries.entry.entry_at.Goals as goal

pub returns-in-Err-clause-none : goal.returns-in-Err-clause-none
returns-in-Err-clause-none c = none_begins c.args.bytes.now _ c.in-Err.ensures.lacks
