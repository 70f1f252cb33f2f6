use Rattle.nx_left_on.proofs.lemmas.reading.Among.{held_among, held_to_end_among}
use Rattle.nx_left_on.proofs.reading.a_log_reader_gives_the_entries_among_bytes.Goals as goal

pub returns : goal.returns
returns c = record { so_far = held_among; at_end = held_to_end_among }
