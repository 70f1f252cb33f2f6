use Rattle.nx_copies.proofs.lemmas.emissions.Found.{one_found, one_ended, sending_errors}
use Rattle.nx_promises.proofs.once.each_sending_gives_one_copy.Goals as goal

pub returns : goal.returns
returns c = record { found = one_found; ended = one_ended; errors = sending_errors }
