use Rattle.nx_receiver.proofs.lemmas.chain.Printing.{same_end, same_entries, same_log}
use Rattle.nx_promises.proofs.chain.the_last_entries_decide.Goals as goal

pub returns : goal.returns
returns c = record { printed = same_log; entered = same_entries; agree = same_end }
