use Rattle.std.proofs.Common.{◌-◌, drop, length}
use Rattle.nx_receiver.proofs.lemmas.receiver.Feeds.{Fed}
use Rattle.nx_receiver.proofs.channel_receiver.next_printed_of.Given as goal

-- the first elements were heard, and nothing was printed
abbrev pub invariant-loop-heard : goal.invariant-loop-heard
invariant-loop-heard g l =
    Fed g.R.ChannelReceiver.kind l.fn.receiver l.receiver (drop l.from l.packed) l.heard

abbrev pub decreases-loop-heard : goal.decreases-loop-heard
decreases-loop-heard g l = length l.packed - l.from - l.heard
