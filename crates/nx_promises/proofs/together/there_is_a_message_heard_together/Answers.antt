use Rattle.nx_promises.proofs.lemmas.examples.Together.{twice_through, twice_together}
use Rattle.nx_promises.proofs.together.there_is_a_message_heard_together.Goals as goal

pub returns : goal.returns
returns c = (twice_together, twice_through)
