use Rattle.nx_promises.proofs.lemmas.examples.AirFile.{heard-in-time, logged}
use Rattle.nx_promises.proofs.listening.there_is_an_air_file_with_a_message_heard_in_time.Goals as goal

pub returns : goal.returns
returns c = record { heard = heard-in-time; log = logged }
