use Rattle.nx_sync.proofs.lemmas.words.WordLists.{words_heard-found, words_heard-stands, words_heard-over}
use Rattle.nx_sync.proofs.lemmas.words.WordLists.{words_of-next, words_of-more}
use Rattle.nx_sync.proofs.laws.a_word_is_appended.Goals as goal

pub returns : goal.returns
returns c = record {
  found = words_heard-found;
  stands = words_heard-stands;
  over = words_heard-over;
  next = words_of-next;
  more = λ bits more t n here h. words_of-more bits more t n here.enough h;
}
