use Rattle.std.proofs.Common.{◌≡◌, ◌++◌, map, take}
use Rattle.nx_code.specs.declared.signals.Comb.{Comb}
use Rattle.nx_fec.specs.emissions.Emission.{sent_position, traffic_position}
use Rattle.nx_station.proofs.broadcast.push_combs.Given as goal

abbrev pub invariant-loop-comb : goal.invariant-loop-comb
invariant-loop-comb l =
    map sent_position l.positions.items
    ≡ map sent_position l.fn.positions.items
    ++ map traffic_position (map (λ (comb : Comb). comb.number) (take l.comb-index l.combs))
