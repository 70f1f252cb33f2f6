use Rattle.nx_combine.proofs.lemmas.Hearing.{nothing_combined}
use Rattle.nx_combine.proofs.taker.CombinedTaker.new.Goals as goal

pub returns-clause-stands : goal.returns-clause-stands
returns-clause-stands c = λ first held stands.
    nothing_combined first held _ stands c.new.ensures.fresh
