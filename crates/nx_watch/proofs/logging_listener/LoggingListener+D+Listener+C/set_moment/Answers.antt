use Rattle.nx_receiver.specs.air_file_runs.Listen.{given_by}
use Rattle.nx_receiver.specs.Listener.{starts_by}
use Rattle.nx_watch.proofs.lemmas.log.LoggingListener.{moment-answered}
use Rattle.nx_watch.proofs.logging_listener.LoggingListener+D+Listener+C.set_moment.Goals as goal

pub returns-clause-set : goal.returns-clause-set
returns-clause-set g c = λ start lines bytes h.
    moment-answered g.C.ChannelReceiver.kind g.D.DiskFile start c.args.self.now
    c.set_moment.new.self lines bytes
    c.args.given c.set_moment.result
    (λ copies heard. c.set_moment.ensures.heard (starts_by g.C.ChannelReceiver.kind start.listener)
    (given_by lines) copies
    heard) h
