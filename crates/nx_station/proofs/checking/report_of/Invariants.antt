use Rattle.std.proofs.Common.{◌≡◌, ◌++◌, map, take}
use Rattle.nx_station.specs.Checking.{station_line}
use Rattle.nx_station.specs.MessageFile.{file_message_of, message_file_bytes}
use Rattle.nx_station.proofs.checking.report_of.Given as goal

abbrev pub invariant-loop-message : goal.invariant-loop-message
invariant-loop-message l =
    l.text.items ≡ station_line l.fn.station.byte
    ++ message_file_bytes (map file_message_of (take l.message-index l.messages))
