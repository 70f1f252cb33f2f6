use Rattle.nx_promises.proofs.lemmas.examples.Chain.{heard-in-time, is-chain, logs-are}
use Rattle.nx_promises.proofs.chain.there_is_a_chain_with_a_message_heard_in_time.Goals as goal

pub returns : goal.returns
returns c = record { chain = is-chain; heard = heard-in-time; logs = logs-are }
