use Rattle.nx_combine.proofs.lemmas.Sendings.{whole_copy}
use Rattle.nx_combine.proofs.lemmas.Together.{together_of_one_text, together_whole}
use Rattle.nx_combine.proofs.laws.sendings_make_a_whole.Goals as goal

pub returns-clause-of_one_text : goal.returns-clause-of_one_text
returns-clause-of_one_text c = together_of_one_text

pub returns-clause-whole : goal.returns-clause-whole
returns-clause-whole c = together_whole

pub returns-clause-printed : goal.returns-clause-printed
returns-clause-printed c = whole_copy
