use Rattle.std.proofs.Common.{List, subst}
use Rattle.nx_copies.specs.Events.{Event, Start}
use Rattle.nx_receiver.specs.air_file_runs.Listen.{events_on}
use Rattle.nx_copies.specs.copies.Log.{PrintsToEnd}
use Rattle.nx_copies.specs.copies.Shares.{copies_on, start_on}
use Rattle.nx_copies.proofs.lemmas.channels.Shares.{to_end-on}
use Rattle.nx_copies.proofs.lemmas.printing.Logged.{one_to_end}
use Rattle.nx_promises.proofs.channels.channels_share_nothing.Goals as goal

pub returns : goal.returns
returns c starts others file other log same lines more copies those channel e f h k =
    let there = to_end-on starts _ copies channel h.printed in
    one_to_end (start_on others channel) (events_on channel more) (copies_on channel copies)
    (copies_on channel those)
    (subst (λ (start : Start). PrintsToEnd start (events_on channel more)
    (copies_on channel copies)) e
    (subst (λ (events : List Event). PrintsToEnd (start_on starts channel) events
    (copies_on channel copies)) f there))
    (to_end-on others _ those channel k.printed)
