use Rattle.nx_promises.proofs.lemmas.chain.Once.{chain_once, unknown_from_nothing}
use Rattle.nx_receiver.proofs.lemmas.chain.Runs.{chain_logs}
use Rattle.nx_promises.proofs.chain.a_message_heard_over_runs_has_one_entry.Goals as goal

pub returns : goal.returns
returns c = record {
  logged = λ first last runs chain. chain_logs first runs last chain;
  from_nothing = λ runs channel message. unknown_from_nothing channel runs message;
  once = λ first last runs channel message chain h.
      chain_once channel first last runs message chain h;
}
