use Rattle.std.proofs.Common.{◌≡◌, ◌++◌, ℕ, List, map, take}
use Rattle.std.specs.List.{flat_map}
use Rattle.nx_fec.specs.emissions.Emission.{sent_position}
use Rattle.nx_station.specs.Broadcast.{AreSpelled, phasing_and_message, further_phasing}
use Rattle.nx_station.proofs.broadcast.broadcast.Given as goal

abbrev pub invariant-loop-message : goal.invariant-loop-message
invariant-loop-message l =
    (spellings : List (List ℕ)) × AreSpelled (take l.message-index l.others) spellings
    × (map sent_position l.positions.items
    ≡ map sent_position l.initial.positions.items
    ++ flat_map (phasing_and_message further_phasing) spellings)
