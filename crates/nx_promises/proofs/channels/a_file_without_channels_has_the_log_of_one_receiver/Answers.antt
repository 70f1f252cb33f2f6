use Rattle.nx_promises.proofs.lemmas.channels.Unnamed.{one-receiver}
use Rattle.nx_promises.proofs.channels.a_file_without_channels_has_the_log_of_one_receiver.Goals as goal

pub returns : goal.returns
returns c = one-receiver
