use Rattle.std.proofs.Common.{sym, refl}
use Rattle.nx_fec.specs.emissions.Aligned.{dx_words}
use Rattle.nx_fec.proofs.lemmas.emissions.Aligned.{dx_words-longer, dx_words-more, third_last-dx_words}
use Rattle.nx_fec.proofs.laws.dx_words_of_locks.Goals as goal

pub returns-clause-third_last : goal.returns-clause-third_last
returns-clause-third_last c = third_last-dx_words

pub returns-clause-none : goal.returns-clause-none
unfolding dx_words
returns-clause-none c words first = refl

pub returns-clause-next : goal.returns-clause-next
returns-clause-next c words first count = sym (dx_words-more words first count _ refl)

pub returns-clause-longer : goal.returns-clause-longer
returns-clause-longer c = dx_words-longer
