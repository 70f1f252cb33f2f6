-- A file that was just opened.
use Rattle.std.specs.Prelude.{◌≡◌, ◌↔◌, ℕ, List}
use Rattle.nx_kept.specs.declared.disk.DiskFile.{Ghosts as TellsOfDisk}
use Rattle.nx_disk.specs.Events.{LeftAtFirst}

-- No call of it was made: any bytes may be what it holds. A crash may leave these bytes, or one of
-- the files that were handed in, and nothing else.
pub record IsFresh {D : Type 0} (tells : TellsOfDisk D) (first : List (List ℕ)) (file : D) : Type 0
  where
    pub explains : (start : List ℕ) → tells.explains start file
    pub seen : (start : List ℕ) → tells.seen start file ≡ start
    pub leaves : (start c : List ℕ) → tells.may_leave start file c ↔ LeftAtFirst start first c
    pub no_moment : tells.moment file ≡ 0
    pub no_faults : tells.faults file ≡ 0
