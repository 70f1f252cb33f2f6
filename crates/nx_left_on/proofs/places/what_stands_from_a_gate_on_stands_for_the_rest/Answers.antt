use Rattle.nx_left_on.proofs.lemmas.reading.Placed.{from_its_gate, from_next_gate}
use Rattle.nx_left_on.proofs.places.what_stands_from_a_gate_on_stands_for_the_rest.Goals as goal

pub returns : goal.returns
returns c = record { before = from_its_gate; behind = from_next_gate }
