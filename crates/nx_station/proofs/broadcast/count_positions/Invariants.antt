use Rattle.std.proofs.Common.{◌≡◌, ◌≤◌, ◌*◌, ℕ, List, take}
use Rattle.std.specs.List.{AllByRecursion}
use Rattle.nx_envelope.specs.Message.{AreLines, MessageView}
use Rattle.nx_station.specs.Broadcast.{AreSpelled}
use Rattle.nx_station.proofs.lemmas.broadcasts.Broadcast.{total}
use Rattle.nx_station.proofs.broadcast.count_positions.Given as goal

abbrev pub invariant-loop-message : goal.invariant-loop-message
invariant-loop-message l = record {
  counted : (spellings : List (List ℕ)) × AreSpelled (take l.message-index l.messages) spellings
      × (l.count ≡ total spellings);
  sound : AllByRecursion (λ (message : MessageView). AreLines message.lines)
      (take l.message-index l.messages);
  few : l.count ≤ 8249 * l.message-index;
}
