use Rattle.std.proofs.Common.{◌<◌, length}
use Rattle.nx_fec.specs.air_files.Channels.{channel_number}
use Rattle.nx_fec.specs.declared.air_files.channel.Channel.{Channel}
use Rattle.nx_handle.specs.private.Opening.{ShutSame}
use Rattle.nx_handle.proofs.lemmas.Begun.{BeginsAt}
use Rattle.nx_handle.proofs.saving.begin_all.Given as goal

-- the channels so far have begun
abbrev pub invariant-loop-at : goal.invariant-loop-at
invariant-loop-at g l = record {
  same : ShutSame g.P.KeptPlace.kind l.fn.places l.places;
  begun : (channel : Channel) → channel_number channel < l.at
      → BeginsAt g.P.KeptPlace.kind l.state (length l.fn.places) l.places channel;
}
