use Rattle.nx_left_on.proofs.lemmas.chains.Chains.{content-chain, empty-content, prints-chain, remembers-chain}
use Rattle.nx_left_on.proofs.laws.a_chain_of_watches_is_one_receiver.Goals as goal

pub returns : goal.returns
returns c = record {
  remembers = remembers-chain;
  printed = prints-chain;
  content = content-chain;
  empty = empty-content;
}
