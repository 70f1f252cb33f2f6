use Rattle.nx_copies.proofs.lemmas.printing.Log.{one_log, some_log}
use Rattle.nx_copies.proofs.lemmas.printing.Logged.{one_printed, one_to_end, some_printed, some_to_end}
use Rattle.nx_promises.proofs.there_is_one_log.Goals as goal

pub returns : goal.returns
returns c = record {
  some = some_printed;
  one = one_printed;
  some_closed = some_to_end;
  one_closed =
      one_to_end;
  some_bytes = some_log;
  one_bytes = one_log;
}
