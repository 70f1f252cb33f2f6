use Rattle.nx_memory.proofs.lemmas.Renewed.{known-last_known, last_known-content}
use Rattle.nx_memory.proofs.lemmas.Renewed.{newest-last_known}
use Rattle.nx_memory.proofs.laws.the_last_known_tell_all.Goals as goal

pub returns : goal.returns
returns c = record {
  known = known-last_known;
  content = last_known-content;
  newest = newest-last_known;
}
