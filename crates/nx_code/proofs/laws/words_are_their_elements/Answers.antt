use Rattle.nx_code.proofs.lemmas.Word.{number_of-elements, elements-number_of}
use Rattle.nx_code.proofs.laws.words_are_their_elements.Goals as goal

pub returns-clause-number : goal.returns-clause-number
returns-clause-number c = number_of-elements

pub returns-clause-bits : goal.returns-clause-bits
returns-clause-bits c = elements-number_of
