use Rattle.std.proofs.Common.{◌++◌}
use Rattle.nx_left_on.specs.Chain.{all_put}
use Rattle.nx_left_on.proofs.lemmas.combined.Chains.{by-chain-at, whole-answered, whole-last, whole-surely}
use Rattle.nx_left_on.proofs.together.a_message_heard_together_stands_in_the_log_whole.Goals as goal

pub returns : goal.returns
returns c = record {
  answered = λ log before after watch channel parts message numbers chain is heard came.
      whole-answered (log ++ all_put before) watch (by-chain-at log before after watch chain)
      channel parts message numbers is heard came;
  last = λ log before after watch channel parts message numbers chain is heard came.
      whole-last (log ++ all_put before) watch (by-chain-at log before after watch chain) channel
      parts message numbers is heard came;
  surely = λ log before after watch channel parts message numbers chain heard came.
      whole-surely (log ++ all_put before) watch (by-chain-at log before after watch chain) channel
      parts message numbers heard came;
}
