use Rattle.nx_receiver.proofs.lemmas.listening.Moments.{one-closed, one-open, some-closed, some-open}
use Rattle.nx_promises.proofs.listening.an_air_file_has_one_log.Goals as goal

pub returns : goal.returns
returns c = record {
  some = some-closed;
  one = one-closed;
  some_open = some-open;
  one_open =
      one-open;
}
