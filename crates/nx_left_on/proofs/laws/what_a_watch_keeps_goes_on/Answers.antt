use Rattle.nx_left_on.proofs.lemmas.chains.Keeps.{keeps-all, keeps-behind, keeps-faulted, keeps-some}
use Rattle.nx_left_on.proofs.laws.what_a_watch_keeps_goes_on.Goals as goal

pub returns : goal.returns
returns c = record {
  all = keeps-all;
  some = keeps-some;
  behind_a_read = keeps-behind;
  after_a_fault = keeps-faulted;
}
