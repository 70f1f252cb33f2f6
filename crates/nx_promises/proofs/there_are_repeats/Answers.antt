use Rattle.nx_promises.proofs.lemmas.examples.Repeats.{example}
use Rattle.nx_promises.proofs.there_are_repeats.Goals as goal

pub returns : goal.returns
returns c = example
