use Rattle.nx_envelope.proofs.lemmas.headers.Rising.{headers_rise_in}
use Rattle.nx_envelope.proofs.laws.headers_rise.Goals as goal

pub returns : goal.returns
returns c = headers_rise_in
