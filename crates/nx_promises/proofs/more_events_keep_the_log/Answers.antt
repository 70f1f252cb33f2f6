use Rattle.nx_copies.proofs.lemmas.locks.Growing.{ended_go_on}
use Rattle.nx_copies.proofs.lemmas.printing.Logged.{has_printed_on, prints_to_end_on}
use Rattle.nx_promises.proofs.more_events_keep_the_log.Goals as goal

pub returns : goal.returns
returns c = record {
  found = λ bits more older locks was now is then. let g =
      ended_go_on bits more older locks was now is then in (g.rest, g.whole);
  printed = λ start events more log later h k. let g =
      has_printed_on start events more log later h k in (g.rest, g.whole);
  closed = λ start events more log whole h k. let g =
      prints_to_end_on start events more log whole h k in (g.rest, g.whole);
}
