-- What is given to who takes the records of a log.
use Rattle.std.specs.Prelude.{◌≡◌, ◌≢◌, ℕ, List, [], ◌∷◌, ◌++◌, ◌==◌, if◌then◌else◌}
use Rattle.nx_kept.specs.Disk.{OnlyReads}
use Rattle.nx_kept.specs.Kept.{closed_gate, line_behind, IsBehindOpenGates, IsTail}
use Rattle.nx_kept.specs.declared.disk.DiskFile.{Ghosts as TellsOfDisk}

-- from old to new it took these records, in order
abbrev pub Took : {T : Type 0} → (T → List ℕ → T → Type 0) → T → List (List ℕ) → T → Type 0
Took takes old [] new = new ≡ old
Took {T} takes old (record_ ∷ records) new = (mid : T) × takes old record_ mid
    × Took takes mid records new

-- or some
abbrev pub TookSome : {T : Type 0} → (T → List ℕ → T → Type 0) → T → T → Type 0
TookSome takes old new = (records : List (List ℕ)) × Took takes old records new

-- what is cut of a tail: the bytes behind its closed gate, or a byte that is no closed gate
abbrev pub cut_of : List ℕ → List ℕ
cut_of [] = []
cut_of (gate ∷ more) = if gate == closed_gate then more else gate ∷ more

-- it heard that these bytes are cut, and of their line; of no bytes it heard nothing
pub record HeardOfCut {T : Type 0} (hears_of_cut : T → ℕ → List ℕ → T → Type 0) (line : ℕ)
    (bytes : List ℕ) (old new : T) : Type 0 where
  pub nothing : bytes ≡ [] → new ≡ old
  pub heard : bytes ≢ [] → hears_of_cut old line bytes new

-- from old to new the file is only read, whatever it had at first
abbrev pub IsUntouched : {D : Type 0} → TellsOfDisk D → D → D → Type 0
IsUntouched tells old new =
    (start : List ℕ) → OnlyReads (tells.seen start) (tells.may_leave start) tells.moment
    (tells.left_since start) old new

-- It heard that bytes are cut before anything was: as it heard, the file was shown to it, and had
-- only been read since it stood so.
abbrev pub HearsBeforeCut : {D T : Type 0} → TellsOfDisk D → (D → T → ℕ → List ℕ → T → Type 0) → D
    → T → ℕ → List ℕ → T → Type 0
HearsBeforeCut {D} tells hears_of_cut file old line bytes new =
    (shown : D) × IsUntouched tells file shown × hears_of_cut shown old line bytes new

-- It took some records, and heard that some bytes behind them are cut, if it heard of any.
pub record TookOnly {T : Type 0} (takes : T → List ℕ → T → Type 0)
    (hears_of_cut : T → ℕ → List ℕ → T → Type 0) (old new : T) : Type 0 where
  pub given : T
  pub taken : TookSome takes old given
  pub line : ℕ
  pub bytes : List ℕ
  pub heard : HeardOfCut hears_of_cut line bytes given new

-- The file was records behind open gates and a tail. It took the records, in order, and heard of
-- what is cut of the tail. (A closed gate is no line feed, so the bytes behind it begin on its
-- line.)
pub record TookAll {T : Type 0} (is_record : List ℕ → Type 0) (longest : ℕ)
    (takes : T → List ℕ → T → Type 0) (hears_of_cut : T → ℕ → List ℕ → T → Type 0)
    (file : List ℕ) (old new : T) : Type 0 where
  pub records : List (List ℕ)
  pub front : List ℕ
  pub tail : List ℕ
  pub kept : IsBehindOpenGates is_record records front
  pub end : IsTail longest tail
  pub split : file ≡ front ++ tail
  pub given : T
  pub taken : Took takes old records given
  pub heard : HeardOfCut hears_of_cut (line_behind front) (cut_of tail) given new
