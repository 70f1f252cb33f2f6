use Rattle.nx_combine.proofs.lemmas.Closing.{all_end, lock_ends}
use Rattle.nx_combine.proofs.taker.CombinedTaker.close.Goals as goal

pub returns-clause-lock : goal.returns-clause-lock
returns-clause-lock c = λ first held bits settings copies over.
    lock_ends first held c.args.self.now c.close.new.self bits settings copies
    (record { fresh = c.close.ensures.as_new }) over c.close.ensures.closes

pub returns-clause-all : goal.returns-clause-all
returns-clause-all c = λ first held bits settings copies stands.
    all_end first held c.args.self.now c.close.new.self bits settings copies
    c.close.ensures.closes stands
