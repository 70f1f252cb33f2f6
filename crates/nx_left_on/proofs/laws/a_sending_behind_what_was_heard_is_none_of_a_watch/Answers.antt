use Rattle.std.proofs.Common.{arith}
use Rattle.nx_left_on.proofs.laws.a_sending_behind_what_was_heard_is_none_of_a_watch.Goals as goal

pub returns : goal.returns
returns c channel cuts message cut place behind sent = omega (arith, behind, sent.heard)
