use Rattle.std.proofs.Common.{◌≡◌, ℕ, ◌-◌, ◌≤◌, Bool, List, map}
use Rattle.nx_fec.specs.air_files.AirFile.{element_digit}
use Rattle.nx_station.specs.Damage.{Damage}
use Rattle.nx_station.specs.private.DamageTaker.{AreNamed}
use Rattle.nx_station.specs.private.DamageWalk.{IsOnWalk, front, front_count}
use Rattle.nx_station.proofs.damaging.Named.invert.Given as goal

abbrev pub invariant-loop-at : goal.invariant-loop-at
invariant-loop-at l = record {
  walk : IsOnWalk l.self l.at;
  few : l.count ≤ l.at;
  digits : (damage : Damage) (place : ℕ) (bits : List Bool) → AreNamed damage place l.self bits
      → l.fn.digits ≡ map element_digit bits
      → l.digits ≡ map element_digit (front damage place l.at bits);
  counted : (damage : Damage) (place : ℕ) (bits : List Bool) → AreNamed damage place l.self bits
      → l.fn.digits ≡ map element_digit bits → l.count ≡ front_count damage place l.at bits;
}

abbrev pub decreases-loop-at : goal.decreases-loop-at
decreases-loop-at l = l.self.end - l.at
