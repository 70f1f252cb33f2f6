use Rattle.nx_promises.proofs.lemmas.together.Heard.{are_heard, are_not_idle, are_taken, copy_reaches}
use Rattle.nx_promises.proofs.together.a_visible_sending_is_as_sent_or_lost.Goals as goal

pub returns : goal.returns
returns c = record {
  taken = are_taken;
  as_sent = are_heard;
  never_idle = are_not_idle;
  reaches = copy_reaches;
}
