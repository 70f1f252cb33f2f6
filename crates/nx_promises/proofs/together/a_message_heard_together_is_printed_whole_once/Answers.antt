use Rattle.nx_promises.proofs.lemmas.together.Joint.{whole_so_far, whole_to_end}
use Rattle.nx_promises.proofs.together.a_message_heard_together_is_printed_whole_once.Goals as goal

pub returns : goal.returns
returns c = record { so_far = whole_so_far; to_end = whole_to_end }
