use Rattle.nx_copies.proofs.lemmas.channels.Shares.{to_end-on}
use Rattle.nx_receiver.specs.air_file_runs.Listen.{events_on, given_by}
use Rattle.nx_combine.specs.CombinedPrinting.{combined}
use Rattle.nx_copies.specs.copies.Shares.{copies_on, start_on}
use Rattle.nx_promises.proofs.lemmas.together.Joint.{whole_to_end}
use Rattle.nx_promises.proofs.together.a_log_has_a_message_heard_together_whole_once.Goals as goal

pub returns : goal.returns
returns c = λ channel starts file log lines copies message numbers on logged.
    whole_to_end (start_on starts channel) (events_on channel lines) on.parts message numbers
    on.heard on.came (copies_on channel copies)
    (to_end-on {printing = combined} starts (given_by lines) copies channel logged.printed)
