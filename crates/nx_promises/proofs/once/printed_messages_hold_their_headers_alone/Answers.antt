use Rattle.nx_promises.proofs.lemmas.emissions.Headers.{headers_of_messages, messages_have_headers}
use Rattle.nx_promises.proofs.once.printed_messages_hold_their_headers_alone.Goals as goal

pub returns : goal.returns
returns c messages header good =
    (headers_of_messages messages header good, messages_have_headers messages header good)
