use Rattle.std.proofs.Common.{refl}
use Rattle.nx_fec.specs.declared.air_files.channel.Channel.TheVariants.{Zero, One, Two}
use Rattle.nx_receiver.proofs.lemmas.listening.Listener.{commanded, on_ok-map}
use Rattle.nx_receiver.proofs.listener.Listener.command.Goals as goal

pub returns-in-Zero-clause-heard : goal.returns-in-Zero-clause-heard
returns-in-Zero-clause-heard g c = rw (c.in-Zero.is, ← c.self.view_is)
    (on_ok-map c.command.result c.command.ensures.stands
    (λ takes starts given copies h.
    commanded g.met.R.ChannelReceiver.laws starts _ _ given copies Zero _ h refl takes))

pub returns-in-One-clause-heard : goal.returns-in-One-clause-heard
returns-in-One-clause-heard g c = rw (c.in-One.is, ← c.self.view_is)
    (on_ok-map c.command-in-One.result c.command-in-One.ensures.stands
    (λ takes starts given copies h.
    commanded g.met.R.ChannelReceiver.laws starts _ _ given copies One _ h refl takes))

pub returns-in-Two-clause-heard : goal.returns-in-Two-clause-heard
returns-in-Two-clause-heard g c = rw (c.in-Two.is, ← c.self.view_is)
    (on_ok-map c.command-in-Two.result c.command-in-Two.ensures.stands
    (λ takes starts given copies h.
    commanded g.met.R.ChannelReceiver.laws starts _ _ given copies Two _ h refl takes))
