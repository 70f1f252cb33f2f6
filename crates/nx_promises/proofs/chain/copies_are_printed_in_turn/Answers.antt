use Rattle.nx_copies.proofs.lemmas.printing.Logged.{entries_after-append, printed_copies-append}
use Rattle.nx_promises.proofs.chain.copies_are_printed_in_turn.Goals as goal

pub returns : goal.returns
returns c = record { printed = printed_copies-append; entered = entries_after-append }
