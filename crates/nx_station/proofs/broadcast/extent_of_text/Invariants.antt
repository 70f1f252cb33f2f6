use Rattle.std.proofs.Common.{◌≤◌, ◌*◌, length, take}
use Rattle.nx_envelope.specs.Message.{text_of}
use Rattle.nx_station.specs.private.MessageParts.{IsExtent}
use Rattle.nx_station.proofs.broadcast.extent_of_text.Given as goal

abbrev pub invariant-loop-i : goal.invariant-loop-i
invariant-loop-i l = record {
  spells : IsExtent (text_of (take l.i l.message.lines)) l.extent;
  few : l.extent.length ≤ 2 * length (text_of (take l.i l.message.lines));
}
