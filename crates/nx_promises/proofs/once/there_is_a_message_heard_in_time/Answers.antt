use Rattle.nx_promises.proofs.lemmas.examples.Emission.{heard_in_time}
use Rattle.nx_promises.proofs.once.there_is_a_message_heard_in_time.Goals as goal

pub returns : goal.returns
returns c = heard_in_time
