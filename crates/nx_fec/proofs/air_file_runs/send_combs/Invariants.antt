use Rattle.std.proofs.Common.{◌≡◌, length, map, take}
use Rattle.nx_code.specs.declared.signals.Comb.{Comb}
use Rattle.nx_fec.specs.declared.emissions.positions.Position.TheVariants.{Traffic}
use Rattle.nx_fec.proofs.air_file_runs.send_combs.Given as goal

-- the positions so far
abbrev pub invariant-loop-place : goal.invariant-loop-place
invariant-loop-place l = record {
  size : length l.positions ≡ length l.combs;
  same : take l.place l.positions ≡ map (λ (comb : Comb). Traffic comb) (take l.place l.combs);
}
