use Rattle.nx_envelope.proofs.lemmas.headers.ReadAtTheEnd.{identity_spelled_at_end}
use Rattle.nx_envelope.proofs.laws.header_is_spelled.Goals as goal

pub returns : goal.returns
returns c = identity_spelled_at_end
