use Rattle.nx_promises.proofs.lemmas.examples.Again.{can-be-saved, heard-again, logged-again}
use Rattle.nx_promises.proofs.chain.there_is_a_message_heard_again_after_66_hours.Goals as goal

pub returns : goal.returns
returns c = record { saved = can-be-saved; heard = heard-again; logged = logged-again }
