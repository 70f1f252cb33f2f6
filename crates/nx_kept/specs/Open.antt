-- What the opening of a kept log tells.
use Rattle.std.specs.Prelude.{◌≡◌, ◌⊎◌, ℕ, List}
use Rattle.nx_kept.specs.Disk.{FailedOnce, LeavesOnly, Only, OnlyReads}
use Rattle.nx_kept.specs.Kept.{BeginsWith, StandsFor, StandsForEither}
use Rattle.nx_kept.specs.Log.{IsAtRest}
use Rattle.nx_kept.specs.Taker.{TookAll}
use Rattle.nx_kept.specs.declared.log.KeptLog.{KeptLog}
use Rattle.nx_kept.specs.declared.fault.OpenFault.{OpenFault}
use Rattle.nx_kept.specs.declared.fault.OpenFault.TheVariants.{Read, Disk, Damaged, Memory}

-- The file was records behind open gates and a tail. The records were taken, in order, what is cut
-- of the tail was heard of, and a closed gate is now in the place of the tail.
pub record Opens {D G T : Type 0} (is_record : List ℕ → Type 0) (longest : ℕ)
    (takes : T → List ℕ → T → Type 0) (hears_of_cut : T → ℕ → List ℕ → T → Type 0)
    (seen : D → List ℕ) (may_leave : D → List ℕ → Type 0) (device : D) (old new : T)
    (log : KeptLog D G) : Type 0 where
  pub all : TookAll is_record longest takes hears_of_cut (seen device) old new
  pub at_rest : IsAtRest seen may_leave all.front log

-- A crash from old to new leaves what a crash before old could leave, or a file that stands for the
-- records.
abbrev pub KeepsRecords : {D : Type 0}
    → (is_record : List ℕ → Type 0) (longest : ℕ) (may_leave : D → List ℕ → Type 0) (moment : D → ℕ)
    (left_since : D → ℕ → List ℕ → Type 0) (records : List (List ℕ)) (old new : D) → Type 0
KeepsRecords is_record longest may_leave moment left_since records old new =
    LeavesOnly moment left_since old new
    (λ c. may_leave old c ⊎ StandsFor is_record longest records c)

-- A crash from old to new leaves what a crash before old could leave, or a file that begins with
-- these bytes.
abbrev pub KeepsFront : {D : Type 0}
    → (may_leave : D → List ℕ → Type 0) (moment : D → ℕ) (left_since : D → ℕ → List ℕ → Type 0)
    (front : List ℕ) (old new : D) → Type 0
KeepsFront may_leave moment left_since front old new =
    LeavesOnly moment left_since old new (λ c. may_leave old c ⊎ BeginsWith front c)

-- The file is only read, and brought to the disk: then a crash leaves just what a read finds, and
-- from then on only files that stand for the records.
pub record SyncsFirst {D : Type 0} (is_record : List ℕ → Type 0) (longest : ℕ) (seen : D → List ℕ)
    (may_leave : D → List ℕ → Type 0) (moment : D → ℕ) (left_since : D → ℕ → List ℕ → Type 0)
    (records : List (List ℕ)) (old new : D) : Type 0 where
  pub synced : D
  pub only_read : OnlyReads seen may_leave moment left_since old synced
  pub durable : Only (seen old) (may_leave synced)
  pub since : LeavesOnly moment left_since synced new (StandsFor is_record longest records)

-- it got so far, or the file was only read
abbrev pub SyncsFirstOrReads : {D : Type 0}
    → (is_record : List ℕ → Type 0) (longest : ℕ) (seen : D → List ℕ)
    (may_leave : D → List ℕ → Type 0) (moment : D → ℕ) (left_since : D → ℕ → List ℕ → Type 0)
    (records : List (List ℕ)) (old new : D) → Type 0
SyncsFirstOrReads is_record longest seen may_leave moment left_since records old new =
    SyncsFirst is_record longest seen may_leave moment left_since records old new
    ⊎ OnlyReads seen may_leave moment left_since old new

-- Where each file that a crash could leave before old stands for the records or for those others,
-- so does each file that a crash from old to new leaves.
abbrev pub KeepsEither : {D : Type 0}
    → (is_record : List ℕ → Type 0) (longest : ℕ) (may_leave : D → List ℕ → Type 0) (moment : D → ℕ)
    (left_since : D → ℕ → List ℕ → Type 0) (records others : List (List ℕ)) (old new : D) → Type 0
KeepsEither is_record longest may_leave moment left_since records others old new =
    ((file : List ℕ) → may_leave old file → StandsForEither is_record longest records others file)
    → LeavesOnly moment left_since old new (StandsForEither is_record longest records others)

-- why an opening failed: out of memory before any call of the disk, or by the last call, or by the
-- bytes alone
abbrev pub HasCause : {D : Type 0}
    → (faults : D → ℕ) (has_failed_to_read has_failed_to_write : D → Type 0) → OpenFault → D → D
    → Type 0
HasCause faults to_read to_write Memory old new = new ≡ old
HasCause faults to_read to_write Read old new = FailedOnce (faults old) (faults new) (to_read new)
HasCause faults to_read to_write Disk old new = FailedOnce (faults old) (faults new) (to_write new)
HasCause faults to_read to_write (Damaged line first) old new = faults new ≡ faults old
