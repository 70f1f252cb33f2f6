use Rattle.std.proofs.Common.{◌≡◌, arith, take, subst, rules}
use Rattle.std.proofs.lemmas.List.{take_all}
use Rattle.nx_receiver.specs.air_file_runs.Listen.{given_by}
use Rattle.nx_receiver.specs.Listener.{then_elements}
use Rattle.nx_receiver.proofs.lemmas.listening.Listener.{elements-next}
use Rattle.nx_watch.specs.private.LoggingListener.{KeepsHeard}
use Rattle.nx_watch.proofs.lemmas.log.LoggingListener.{line-heard, none-yet}
use Rattle.nx_watch.proofs.logging_listener.LoggingListener+D+Listener+C.hear.Goals as goal

pub loop-at-init : goal.loop-at-init
loop-at-init g c =
    let disk = g.D.DiskFile in
    let kind = g.C.ChannelReceiver.kind in
    record {
      once = omega (arith, c.requires);
      within = omega arith;
      failed = λ h. h;
      heard = λ start lines h.
          none-yet kind disk g.W.Write.contents g.met.C.ChannelReceiver.laws start c.args.self.now
          c.args.writer.now lines
          c.of-channel.result h;
    }

pub loop-at-preserved : goal.loop-at-preserved
loop-at-preserved g c =
    let disk = g.D.DiskFile in
    let kind = g.C.ChannelReceiver.kind in
    let bits = c.args.packed.now in
    record {
      once = c.hear_next-at.ensures.once;
      within = omega (arith, c.hear_next-at.ensures.within);
      failed = λ h. c.hear_next-at.ensures.failed (c.loop-at.invariant.failed h);
      heard = λ start lines h.
          subst (λ bs. KeepsHeard kind disk g.W.Write.contents start.logging c.hear_next-at.new.self
          start.writer c.hear_next-at.new.writer
          (then_elements (given_by lines) c.of-channel.result bs))
          (elements-next bits c.loop-at.at c.hear_next-at.result)
          (c.hear_next-at.ensures.heard start.logging start.writer lines (take c.loop-at.at bits)
          h.1.loggable h.1.first h.1.in_range (c.loop-at.invariant.heard start lines h));
    }

pub returns-clause-taken : goal.returns-clause-taken
returns-clause-taken g c = λ start lines h.
    let disk = g.D.DiskFile in
    let kind = g.C.ChannelReceiver.kind in
    let bits = c.args.packed.now in
    let all : take c.loop-at.at bits ≡ bits = take_all c.loop-at.at bits (search rules) in
    line-heard kind disk g.W.Write.contents start c.args.self.now c.loop-at.self c.args.writer.now
    c.loop-at.writer lines c.args.mark c.of-channel.result bits c.of-channel.ensures h
    (subst (λ bs. KeepsHeard kind disk g.W.Write.contents start.logging c.loop-at.self start.writer
    c.loop-at.writer (then_elements (given_by lines) c.of-channel.result bs)) all
    (c.loop-at.invariant.heard start lines h))
