use Rattle.nx_code.proofs.lemmas.Reading.{text-append, shift_after_all-append}
use Rattle.nx_code.proofs.laws.reading_goes_on.Goals as goal

pub returns-clause-text : goal.returns-clause-text
returns-clause-text c = text-append

pub returns-clause-shift : goal.returns-clause-shift
returns-clause-shift c = shift_after_all-append
