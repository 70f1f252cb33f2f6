use Rattle.nx_sync.specs.Words.{word_of_lock, first_role}
use Rattle.nx_promises.proofs.lemmas.locks.Apart.{own_text, apart, apart_now}
use Rattle.nx_copies.proofs.lemmas.locks.Found.{text_placed}
use Rattle.nx_promises.proofs.locks_share_nothing.Goals as goal

pub returns : goal.returns
returns c = record {
  own = own_text;
  within = λ bits t n. text_placed (first_role bits t) (word_of_lock bits t) t n;
  apart = apart;
  apart_now = apart_now;
}
