use Rattle.nx_left_on.proofs.lemmas.reading.Staying.{goes_on, stays}
use Rattle.nx_left_on.proofs.places.a_chain_of_watches_keeps_each_place.Goals as goal

pub returns : goal.returns
returns c = record { stays = stays; goes_on = goes_on }
