use Rattle.nx_copies.proofs.lemmas.locks.ReaderWords.{fresh_reads}
use Rattle.nx_copies.proofs.lock_reader.LockReader.new.Goals as goal

pub returns : goal.returns
returns c = fresh_reads c.new.ensures c.new-2.ensures
