use Rattle.std.proofs.Common.{◌≡◌, ◌≤◌, ◌+◌, ◌++◌, length, map}
use Rattle.std.specs.List.{AllByRecursion}
use Rattle.nx_envelope.specs.Message.{MessageView}
use Rattle.nx_station.specs.MessageFile.{IsFileMessage, file_message_of, message_file_bytes}
use Rattle.nx_station.specs.MessageFile.{lines_of}
use Rattle.nx_station.proofs.message_file.messages_in.Given as goal

abbrev pub invariant-loop-rest : goal.invariant-loop-rest
invariant-loop-rest l = record {
  whole : l.file ≡ message_file_bytes (map file_message_of l.messages.items) ++ l.rest;
  each : AllByRecursion IsFileMessage (map file_message_of l.messages.items);
  station : AllByRecursion (λ (message : MessageView). message.identity.b1.byte ≡ l.station.byte)
      l.messages.items;
  counted : l.lines ≡ lines_of (map file_message_of l.messages.items);
  room : l.lines + length l.rest ≤ length l.file;
}

abbrev pub decreases-loop-rest : goal.decreases-loop-rest
decreases-loop-rest l = length l.rest
