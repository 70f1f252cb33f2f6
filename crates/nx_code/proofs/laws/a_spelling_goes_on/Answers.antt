use Rattle.nx_code.proofs.lemmas.Spelling.{Spells-append, shift_after_all-map_append}
use Rattle.nx_code.proofs.laws.a_spelling_goes_on.Goals as goal

pub returns-clause-whole : goal.returns-clause-whole
returns-clause-whole c = Spells-append

pub returns-clause-shift : goal.returns-clause-shift
returns-clause-shift c from earlier later = shift_after_all-map_append earlier later from
