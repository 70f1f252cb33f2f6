use Rattle.std.proofs.Common.{◌-◌, length}
use Rattle.nx_receiver.specs.Receiver.{plain_kind}
use Rattle.nx_receiver.proofs.lemmas.receiver.Feeds.{Fed}
use Rattle.nx_receiver.proofs.receiver.Receiver.hear_bits.Given as goal

abbrev pub invariant-loop-at : goal.invariant-loop-at
invariant-loop-at g l = Fed (plain_kind g.M.Recall.content) l.fn.self l.self l.bits l.at

abbrev pub decreases-loop-at : goal.decreases-loop-at
decreases-loop-at g l = length l.bits - l.at
