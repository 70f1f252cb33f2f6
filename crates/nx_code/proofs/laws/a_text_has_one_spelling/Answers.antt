use Rattle.nx_code.proofs.lemmas.OneSpelling.{spelling-exists, spelled-in_code, spelling-one}
use Rattle.nx_code.proofs.laws.a_text_has_one_spelling.Goals as goal

pub returns-clause-some : goal.returns-clause-some
returns-clause-some c = spelling-exists

pub returns-clause-in_code : goal.returns-clause-in_code
returns-clause-in_code c = spelled-in_code

pub returns-clause-only : goal.returns-clause-only
returns-clause-only c = spelling-one
