use Rattle.nx_sync.specs.Words.{word_of_lock, first_role}
use Rattle.nx_copies.proofs.lemmas.locks.Texts.{bytes_are_reading}
use Rattle.nx_promises.proofs.lemmas.locks.Words.{positions-told}
use Rattle.nx_promises.proofs.a_text_is_read_of_positions.Goals as goal

pub returns : goal.returns
returns c = record {
  read = λ bits t n. bytes_are_reading (first_role bits t) (word_of_lock bits t) t n;
  words = positions-told;
}
