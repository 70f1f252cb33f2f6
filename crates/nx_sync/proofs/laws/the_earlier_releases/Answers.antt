use Rattle.nx_sync.proofs.lemmas.words.Computed.{released-word, released-how, held-neither, neither-held}
use Rattle.nx_sync.proofs.laws.the_earlier_releases.Goals as goal

pub returns : goal.returns
returns c = record {
  word = released-word;
  how = released-how;
  holds = λ bits t. (held-neither bits t, neither-held bits t);
}
