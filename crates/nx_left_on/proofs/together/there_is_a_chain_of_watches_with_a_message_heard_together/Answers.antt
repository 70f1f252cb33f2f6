use Rattle.nx_left_on.proofs.lemmas.combined.Example.{worked-together}
use Rattle.nx_left_on.proofs.together.there_is_a_chain_of_watches_with_a_message_heard_together.Goals as goal

pub returns : goal.returns
returns c = worked-together
