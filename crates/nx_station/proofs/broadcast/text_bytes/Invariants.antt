use Rattle.std.proofs.Common.{◌≡◌, take}
use Rattle.nx_envelope.specs.Message.{text_of}
use Rattle.nx_station.proofs.broadcast.text_bytes.Given as goal

abbrev pub invariant-loop-i : goal.invariant-loop-i
invariant-loop-i l = l.text.items ≡ text_of (take l.i l.message.lines)
