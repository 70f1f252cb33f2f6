use Rattle.std.proofs.Common.{refl, subst}
use Rattle.nx_receiver.specs.air_file_runs.Chain.{all_printed}
use Rattle.nx_copies.specs.copies.Log.{IsLog}
use Rattle.nx_copies.specs.copies.Shares.{saved_of}
use Rattle.nx_receiver.proofs.lemmas.chain.Runs.{chain_logs, chain_prints}
use Rattle.nx_promises.proofs.lemmas.state.Chains.{texts-chain}
use Rattle.nx_promises.proofs.resuming.texts_make_a_chain.Goals as goal

pub returns : goal.returns
returns c = record {
  chain = texts-chain;
  log = λ saved runs last h. subst (IsLog (all_printed h.chain)) h.same_logs
      (chain_logs saved h.chain h.left h.is);
  printed = λ saved runs last channel h. chain_prints channel (saved_of saved channel).entries
      saved h.chain h.left refl h.is;
}
