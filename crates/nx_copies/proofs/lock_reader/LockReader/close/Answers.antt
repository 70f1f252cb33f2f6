use Rattle.nx_copies.proofs.lemmas.locks.ReaderWords.{fresh_reads}
use Rattle.nx_copies.proofs.lock_reader.LockReader.close.Goals as goal

pub returns-clause-as_new : goal.returns-clause-as_new
returns-clause-as_new c = fresh_reads c.new-self-inside.ensures c.close.ensures.as_new
