use Rattle.std.specs.Io.KnownBytes.{IsAtEnd}
use Rattle.nx_fec.specs.Transfers.{read_to}
use Rattle.nx_log.proofs.lemmas.printed.Moments.{closed_logged, open_logged}
use Rattle.nx_log.proofs.lemmas.printed.Runs.{resumed_entries, wrote_entries}
use Rattle.nx_log.proofs.laws.a_run_writes_a_log.Goals as goal

pub returns : goal.returns
returns c = record {
  printed = open_logged;
  closed = closed_logged;
  listened = λ starts left_after contents outcome bytes h.
      wrote_entries starts (read_to (IsAtEnd left_after)) contents outcome bytes h;
  resumed = λ left_after contents outcome input h.
      resumed_entries (read_to (IsAtEnd left_after)) contents outcome input h;
}
