use Rattle.nx_receiver.proofs.lemmas.listening.Once.{one-entry}
use Rattle.nx_promises.proofs.listening.a_message_heard_in_time_has_one_entry.Goals as goal

pub returns : goal.returns
returns c = one-entry
