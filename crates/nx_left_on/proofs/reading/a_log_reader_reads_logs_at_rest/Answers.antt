use Rattle.std.proofs.Common.{[], subst}
use Rattle.std.specs.List.{concat}
use Rattle.nx_log.specs.Reading.{IsOfLog}
use Rattle.nx_left_on.specs.ReadBack.{all_of}
use Rattle.nx_left_on.proofs.lemmas.reading.Quiet.{quiet_end, quiet_files, quiet_first}
use Rattle.nx_left_on.proofs.lemmas.reading.Reaches.{none_stops}
use Rattle.nx_left_on.proofs.lemmas.reading.Rests.{held_to_end, rest_closed, rest_files, rests_first}
use Rattle.nx_left_on.proofs.reading.a_log_reader_reads_logs_at_rest.Goals as goal

pub returns : goal.returns
returns c = record {
  given = λ logs files each.
      held_to_end (concat files) (all_of logs)
      (rest_closed (concat files) (all_of logs) (rest_files logs files [] [] each rests_first));
  quiet = λ logs files each.
      quiet_end (concat files) (all_of logs) (quiet_files logs files [] [] each quiet_first);
  never_stops = λ logs files entries front more torn line each e s.
      let closed = rest_closed (concat files) (all_of logs)
      (rest_files logs files [] [] each rests_first) in
      none_stops front more entries torn line (subst IsOfLog e (closed.read, closed.is)) s;
}
