use Rattle.std.proofs.Common.{◌≡◌, ◌++◌, map, replicate}
use Rattle.nx_fec.specs.emissions.Emission.{sent_position}
use Rattle.nx_station.proofs.broadcast.push_many.Given as goal

abbrev pub invariant-loop : goal.invariant-loop
invariant-loop l = map sent_position l.positions.items
    ≡ map sent_position l.fn.positions.items ++ replicate l.counter (sent_position l.position)
