use Rattle.std.proofs.Common.{◌++◌}
use Rattle.nx_receiver.specs.air_file_runs.Listen.{given_by}
use Rattle.nx_receiver.specs.Listener.{last_copies, starts_by}
use Rattle.nx_watch.proofs.lemmas.log.Loggable.{end-logged}
use Rattle.nx_watch.proofs.lemmas.log.LoggingListener.{back-logged, lines_are, zip-append}
use Rattle.nx_watch.proofs.logging_listener.LoggingListener+D+Listener+C.close.Goals as goal

pub returns-clause-closed : goal.returns-clause-closed
returns-clause-closed g c = λ start lines h.
    let kind = g.C.ChannelReceiver.kind in
    let s = h.1 in
    let starts = starts_by kind start.logging.listener in
    let last = last_copies c.close.result in
    let printed = c.close.ensures.printed starts (given_by lines) s.copies s.heard in
    let logged = back-logged s.copies last
    (end-logged g.met.C.ChannelReceiver.laws.printing s.loggable starts (given_by lines)
    (s.copies ++ last) s.first (lines_are lines s.in_range) printed) in
    let kept = c.keep_last.ensures.kept start.logging.keeper start.writer s.texts logged
    (h.0, s.kept, h.2) in record {
      copies = s.copies ++ last;
      printed = printed;
      texts = s.texts ++ kept.0;
      each = zip-append s.copies last s.texts kept.0 s.each kept.1;
      kept = kept.2;
    }
