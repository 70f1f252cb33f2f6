use Rattle.nx_envelope.proofs.lemmas.headers.Anywhere.{anywhere_both}
use Rattle.nx_envelope.proofs.laws.headers_stand_anywhere.Goals as goal

pub returns : goal.returns
returns c = anywhere_both
