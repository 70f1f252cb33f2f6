use Rattle.std.proofs.Common.{Some, subst}
use Rattle.nx_watch.specs.Acting.{acting_lines, moments_behind}
use Rattle.nx_watch.specs.private.Effects.{IsStartBefore, KeepsMoments}
use Rattle.nx_watch.proofs.lemmas.lines.Run.{start-answered}
use Rattle.nx_watch.proofs.line_run.set_start.Goals as goal

pub returns-in-Some-clause-set : goal.returns-in-Some-clause-set
returns-in-Some-clause-set g c = λ start first lines line given kind force k s.
    let b : IsStartBefore first (moments_behind first lines) line (Some c.in-Some.start) =
    c.in-Some.ensures first (moments_behind first lines) line kind k in
    start-answered g.C.ChannelReceiver.kind g.D.DiskFile start c.args.logging.now
    c.set_moment.new.self first lines line b.2
    b.3 given c.in-Some.start c.start_set.new.self c.set_moment.result b.0 b.1 b.4 force
    (c.start_set.ensures.set first c.in-Some.start b.0
    (subst (λ m. KeepsMoments first m c.args.effects.now) b.1 k))
    (c.set_moment.ensures.set start (acting_lines first lines) given s) s
