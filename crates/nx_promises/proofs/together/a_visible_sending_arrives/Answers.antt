use Rattle.nx_promises.proofs.lemmas.together.Sending.{copy_arrives, sending_found}
use Rattle.nx_promises.proofs.together.a_visible_sending_arrives.Goals as goal

pub returns : goal.returns
returns c = record { found = sending_found; arrives = copy_arrives }
