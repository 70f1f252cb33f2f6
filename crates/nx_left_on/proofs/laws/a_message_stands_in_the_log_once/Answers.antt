use Rattle.nx_left_on.proofs.lemmas.chains.Once.{put-once, unknown-from_nothing}
use Rattle.nx_left_on.proofs.laws.a_message_stands_in_the_log_once.Goals as goal

pub returns : goal.returns
returns c = record {
  once = put-once;
  from_nothing = λ watches channel message chain.
      unknown-from_nothing watches channel message.identity chain;
}
