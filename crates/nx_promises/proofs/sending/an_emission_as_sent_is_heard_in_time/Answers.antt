use Rattle.nx_promises.proofs.lemmas.from_send.Heard.{heard_in_time}
use Rattle.nx_promises.proofs.sending.an_emission_as_sent_is_heard_in_time.Goals as goal

pub returns : goal.returns
returns c = heard_in_time
