use Rattle.std.proofs.Common.{◌≡◌, ◌++◌, length}
use Rattle.std.specs.List.{flat_map}
use Rattle.nx_station.specs.Broadcast.{printed_text}
use Rattle.nx_station.specs.private.PrintedText.{AreSound}
use Rattle.nx_station.proofs.printed.messages_printed.Given as goal

abbrev pub invariant-loop-rest : goal.invariant-loop-rest
invariant-loop-rest l = record {
  whole : l.text ≡ flat_map printed_text l.messages.items ++ l.rest;
  sound : AreSound l.messages.items;
}

abbrev pub decreases-loop-rest : goal.decreases-loop-rest
decreases-loop-rest l = length l.rest
