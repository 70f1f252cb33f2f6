use Rattle.nx_promises.proofs.lemmas.from_send.Files.{sent_in_time, sent_once}
use Rattle.nx_promises.proofs.sending.what_was_sent_is_printed_once.Goals as goal

pub returns : goal.returns
returns c = record {
  heard = λ station from file air sent message t alone numbered.
      sent_in_time station from file air sent t message alone numbered;
  once = λ station from file air log sent message lines copies t alone numbered is.
      sent_once station from file air sent t message lines copies log alone numbered is;
}
