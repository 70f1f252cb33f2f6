use Rattle.nx_receiver.proofs.lemmas.listening.Ends.{closes-all, prints-last}
use Rattle.nx_receiver.proofs.listener.Listener.close.Goals as goal

pub returns-clause-printed : goal.returns-clause-printed
returns-clause-printed g c = λ starts given copies h.
    prints-last starts c.args.self _ given copies
    (closes-all _ _ _ _ _ c.self.view_is
    (record { to_end = c.close-on_0.ensures.stands; moment = c.close-on_0.ensures.moment })
    (record { to_end = c.close-on_1.ensures.stands; moment = c.close-on_1.ensures.moment })
    (record { to_end = c.close-on_2.ensures.stands; moment = c.close-on_2.ensures.moment })) h
