use Rattle.nx_receiver.proofs.lemmas.receiver.Given.{ready_not_open}
use Rattle.nx_combine.proofs.lemmas.Closing.{lock_left}
use Rattle.nx_combine.proofs.taker.CombinedTaker.leave_lock.Goals as goal

pub returns-clause-stands : goal.returns-clause-stands
returns-clause-stands c = λ first held bits settings copies ready over.
    lock_left first held c.args.self.now c.restart.new.self bits settings copies
    (record { fresh = c.restart.ensures.as_new })
    (λ role words n reads. c.restart.ensures.none role words n reads
    (ready_not_open c.args.self.now.copies.reader.finder.copy ready)) over
