use Rattle.std.proofs.Common.{refl}
use Rattle.nx_copies.specs.copies.Shares.{saved_of}
use Rattle.nx_receiver.proofs.lemmas.chain.Runs.{chain_leaves, chain_logs, chain_prints, chain_refuses}
use Rattle.nx_promises.proofs.chain.a_chain_logs_its_joined_copies.Goals as goal

pub returns : goal.returns
returns c = record {
  printed = λ first last runs channel chain. chain_prints channel
      (saved_of first channel).entries first runs last refl chain;
  log = λ first last runs chain. chain_logs first runs last chain;
  entries = λ first last runs channel chain few. chain_leaves channel first runs last few chain;
  selection = λ first last runs channel chain. chain_refuses channel first runs last chain;
}
