use Rattle.nx_receiver.proofs.lemmas.chain.Moments.{copies-from}
use Rattle.nx_receiver.proofs.lemmas.chain.Runs.{chains_join, few_left, goes_on, one_left, some_gone_on}
use Rattle.nx_receiver.proofs.lemmas.chain.Runs.{some_left}
use Rattle.nx_promises.proofs.chain.a_run_goes_on_from_what_is_saved.Goals as goal

pub returns : goal.returns
returns c = record {
  run = goes_on;
  listened = some_gone_on;
  some = some_left;
  one = one_left;
  few = few_left;
  after = λ saved left run channel g. copies-from channel saved left run g;
  join = λ first saved last runs more c d. chains_join first runs more saved last c d;
}
