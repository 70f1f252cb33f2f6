use Rattle.std.proofs.Common.{drop, refl, subst, sym, take, true}
use Rattle.nx_receiver.specs.air_file_runs.Listen.{given_by}
use Rattle.nx_receiver.specs.Listener.{IsSpelled, starts_by}
use Rattle.nx_watch.proofs.lemmas.log.LoggingListener.{lines_are, none-more, none-spelled, one-more}
use Rattle.nx_watch.proofs.logging_listener.LoggingListener+D+Listener+C.hear_next.Goals as goal

pub returns-then-not-is_spelled-clause-heard : goal.returns-then-not-is_spelled-clause-heard
returns-then-not-is_spelled-clause-heard g c = λ start first lines part loggable range within h.
    let disk = g.D.DiskFile in
    let kind = g.C.ChannelReceiver.kind in
    let out = c.hear_spelled-count.ensures.heard in
    none-more kind disk g.W.Write.contents start c.args.self.now _ first c.args.writer.now
    (given_by lines) c.args.channel part (take c.hear_spelled-count.result.0
    (drop c.args.from c.args.packed.now)) out.0 refl
    (none-spelled c.args.channel c.hear_spelled-count.result.1 out.0 _ c.if-not-is_spelled.true
    out.1)
    (λ copies heard. out.2 (starts_by kind start.listener) (given_by lines) part copies heard) h

pub returns-clause-heard : goal.returns-clause-heard
returns-clause-heard g c = λ start first lines part loggable range within h.
    let disk = g.D.DiskFile in
    let kind = g.C.ChannelReceiver.kind in
    let out = c.hear_spelled-count.ensures.heard in
    one-more kind disk g.W.Write.contents g.met.C.ChannelReceiver.laws start c.args.self.now _ first
    c.args.writer.now
    c.keep.new.writer (given_by lines) c.args.channel part (take c.hear_spelled-count.result.0
    (drop c.args.from c.args.packed.now)) out.0 c.deref.result.now loggable range
    (lines_are lines within)
    (subst (IsSpelled c.args.channel true out.0) (sym c.deref.ensures.0)
    (subst (λ b. IsSpelled c.args.channel b out.0 c.hear_spelled-count.new.entry.items)
    c.if-not-is_spelled.false out.1))
    (λ copies heard. out.2 (starts_by kind start.listener) (given_by lines) part copies heard)
    (λ texts is k. c.keep.ensures.kept start.keeper first texts is k) h
