use Rattle.nx_kept.proofs.lemmas.KeptLaws as kept
use Rattle.nx_kept.proofs.laws.bytes_stand_for_one_list.Goals as goal

pub returns-clause-one_list : goal.returns-clause-one_list
returns-clause-one_list g c = kept.one_list g.G.Grammar.is_record g.G.Grammar.LONGEST
    g.met.G.Grammar.some g.met.G.Grammar.one

pub returns-clause-one_line : goal.returns-clause-one_line
returns-clause-one_line g c = kept.one_line g.G.Grammar.is_record g.G.Grammar.LONGEST
