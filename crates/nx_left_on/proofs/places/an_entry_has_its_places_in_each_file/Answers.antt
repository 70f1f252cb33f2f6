use Rattle.nx_left_on.proofs.lemmas.reading.Staying.{stand_behind}
use Rattle.nx_left_on.proofs.places.an_entry_has_its_places_in_each_file.Goals as goal

pub returns : goal.returns
returns c = stand_behind
