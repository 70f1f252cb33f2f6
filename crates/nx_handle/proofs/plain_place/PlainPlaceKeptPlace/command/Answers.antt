use Rattle.nx_copies.specs.Events.{command}
use Rattle.nx_receiver.specs.Commands.{said}
use Rattle.nx_receiver.proofs.lemmas.listening.Listener.{on_ok-map}
use Rattle.nx_handle.proofs.lemmas.Plain.{takes-in}
use Rattle.nx_handle.proofs.plain_place.PlainPlaceKeptPlace.command.Goals as goal

pub returns-clause-taken : goal.returns-clause-taken
returns-clause-taken c =
    on_ok-map c.command.result c.command.ensures.stands
    (λ takes. takes-in c.args.self.now c.in-Hears.receiver c.command.new.self
    (command (said c.args.command)) c.in-Hears.is
    (λ start history log s. takes start history log s))
