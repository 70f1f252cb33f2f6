use Rattle.nx_copies.specs.copies.Shares.{copies_on, share, start_on}
use Rattle.nx_copies.proofs.lemmas.channels.Shares.{to_end-on}
use Rattle.nx_copies.proofs.lemmas.once.Found.{printed_once}
use Rattle.nx_handle.proofs.laws.a_message_heard_in_a_life_has_one_entry.Goals as goal

pub returns : goal.returns
returns c starts given copies channel parts message prints h =
    printed_once (start_on starts channel) (share channel given) parts message h
    (copies_on channel copies) (to_end-on starts given copies channel prints)
