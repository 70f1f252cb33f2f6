use Rattle.nx_log.proofs.lemmas.reader.Steps.{holds_at}
use Rattle.nx_left_on.proofs.lemmas.reading.Among.{held_among, held_to_end_among, kept_read}
use Rattle.nx_left_on.proofs.lemmas.reading.Reaches.{file_is_log, none_stops}
use Rattle.nx_left_on.proofs.reading.a_log_reader_reads_what_a_watch_keeps.Goals as goal

pub returns : goal.returns
returns c = record {
  reader = λ reader entries all file torn kept at.
      kept_read entries all file kept (held_among file all torn (holds_at reader file all torn at));
  so_far = λ entries all file torn kept h.
      kept_read entries all file kept (held_among file all torn h);
  at_end = λ entries all file torn kept h.
      kept_read entries all file kept (held_to_end_among file all torn h);
  never_stops = λ entries others front more torn line kept s.
      file_is_log entries _ kept (λ is. none_stops front more others torn line is s);
}
