use Rattle.nx_envelope.proofs.lemmas.copies.Endings.{ended_both, open_both}
use Rattle.nx_envelope.proofs.laws.copies_end_at_the_least_marker.Goals as goal

pub returns : goal.returns
returns c = record { ended = ended_both; unended = open_both }
