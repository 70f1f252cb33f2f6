use Rattle.nx_receiver.proofs.lemmas.chain.Runs.{files_decide}
use Rattle.nx_promises.proofs.chain.a_chain_is_told_by_its_files.Goals as goal

pub returns : goal.returns
returns c first last end runs others e one other =
    files_decide first runs last others end e one other
