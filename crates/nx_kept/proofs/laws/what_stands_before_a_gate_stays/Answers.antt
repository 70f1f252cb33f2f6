use Rattle.nx_kept.proofs.lemmas.Staying.{begins_both}
use Rattle.nx_kept.proofs.laws.what_stands_before_a_gate_stays.Goals as goal

pub returns : goal.returns
returns g c = λ records others front file kept begins stands.
    let both = begins_both g.G.Grammar.is_record g.G.Grammar.LONGEST g.met.G.Grammar.some
    g.met.G.Grammar.one records others front file kept begins stands in
    (both.listed, both.there)
