use Rattle.nx_left_on.proofs.lemmas.Bounds.{old-unknown, young-known}
use Rattle.nx_left_on.proofs.bounds.an_entry_of_66_hours_is_not_live.Goals as goal

pub returns : goal.returns
returns c = record { unknown = old-unknown; known = young-known }
