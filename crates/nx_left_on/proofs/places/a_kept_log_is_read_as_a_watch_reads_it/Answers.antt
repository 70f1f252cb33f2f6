use Rattle.nx_left_on.proofs.lemmas.reading.Placed.{placed_stand, stand_placed}
use Rattle.nx_left_on.proofs.places.a_kept_log_is_read_as_a_watch_reads_it.Goals as goal

pub returns : goal.returns
returns c = record { stand = placed_stand; placed = stand_placed }
