use Rattle.nx_copies.proofs.lemmas.once.Found.{printed_once}
use Rattle.nx_promises.proofs.once.a_message_is_printed_once.Goals as goal

pub returns : goal.returns
returns c start events parts message log prints h =
    printed_once start events parts message h log prints
