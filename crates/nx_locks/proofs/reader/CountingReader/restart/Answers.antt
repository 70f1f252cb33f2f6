use Rattle.nx_locks.proofs.lemmas.ReaderWords.{fresh_reader}
use Rattle.nx_locks.proofs.reader.CountingReader.restart.Goals as goal

pub returns-clause-fresh : goal.returns-clause-fresh
returns-clause-fresh c = fresh_reader c.restart.new.self c.restart.ensures.as_new
