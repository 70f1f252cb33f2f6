use Rattle.nx_envelope.proofs.lemmas.headers.ReadAtTheEnd.{marker_spelled}
use Rattle.nx_envelope.proofs.laws.markers_are_spelled.Goals as goal

pub returns : goal.returns
returns c = marker_spelled
