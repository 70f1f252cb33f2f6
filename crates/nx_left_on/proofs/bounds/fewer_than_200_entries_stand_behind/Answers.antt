use Rattle.nx_left_on.proofs.lemmas.Bounds.{few-between, not-few}
use Rattle.nx_left_on.proofs.bounds.fewer_than_200_entries_stand_behind.Goals as goal

pub returns : goal.returns
returns c = record { few = few-between; many = not-few }
