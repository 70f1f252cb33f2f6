use Rattle.std.proofs.Common.{arith}
use Rattle.nx_station.proofs.broadcast.emission.Goals as goal

pub count_positions-count-requires : goal.count_positions-count-requires
count_positions-count-requires c = c.in_ok-check_stations.ensures.ok.1.some

pub returns-in-Ok-clause-sendable : goal.returns-in-Ok-clause-sendable
returns-in-Ok-clause-sendable c = record {
  station = c.in_ok-check_stations.ensures.ok.0;
  of_one = c.in_ok-check_stations.ensures.ok.1;
  has_slots = c.in_ok-check_stations.ensures.ok.2;
  sound = c.count_positions-count.ensures.sound;
  positions = c.count_positions-count.ensures.count.0;
  broadcast = c.count_positions-count.ensures.count.1;
  fits = omega (arith, c.count_positions-count.ensures.count.2, c.if-count-gt-MAX_POSITIONS.false);
}

pub returns-in-Err-clause-refused : goal.returns-in-Err-clause-refused
returns-in-Err-clause-refused c = record {
  station = c.in_ok-check_stations.ensures.ok.0;
  of_one = c.in_ok-check_stations.ensures.ok.1;
  has_slots = c.in_ok-check_stations.ensures.ok.2;
  sound = c.count_positions-count.ensures.sound;
  positions = c.count_positions-count.ensures.count.0;
  broadcast = c.count_positions-count.ensures.count.1;
  fits = omega (arith, c.count_positions-count.ensures.count.2, c.if-count-gt-MAX_POSITIONS.false);
}
