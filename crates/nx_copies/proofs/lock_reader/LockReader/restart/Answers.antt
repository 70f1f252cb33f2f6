use Rattle.nx_copies.specs.copies.LockText.{text_after}
use Rattle.nx_copies.proofs.lemmas.locks.ReaderWords.{fresh_reads, not_open}
use Rattle.nx_copies.proofs.lock_reader.LockReader.restart.Goals as goal

pub returns-clause-none : goal.returns-clause-none
returns-clause-none c first words n reads none =
    not_open c.args.self.now.finder.copy c.args.self.now.finder.text (text_after first words n)
    none reads.finder.copy

pub returns-clause-as_new : goal.returns-clause-as_new
returns-clause-as_new c = fresh_reads c.new-fresh.ensures c.restart.ensures.as_new
