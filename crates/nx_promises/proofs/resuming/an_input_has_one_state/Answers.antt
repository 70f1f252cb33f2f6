use Rattle.nx_receiver.proofs.lemmas.state.Answers.{one_answer}
use Rattle.nx_promises.proofs.resuming.an_input_has_one_state.Goals as goal

pub returns : goal.returns
returns c input answer other = one_answer input answer other
