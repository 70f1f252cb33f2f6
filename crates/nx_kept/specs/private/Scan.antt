-- What a reader of a kept log finds at the place of a gate.
use Rattle.std.specs.Prelude.{◌≡◌, ◌≢◌, ◌⊎◌, ◌↔◌, ℕ, ◌≤◌, List, [], ◌∷◌, ◌++◌, length, take, drop, IsTrue}
use Rattle.nx_kept.specs.Disk.{FailedOnce, Only}
use Rattle.nx_kept.specs.declared.fault.OpenFault.{OpenFault}
use Rattle.nx_kept.specs.declared.fault.OpenFault.TheVariants.{Read, Disk, Damaged as DamagedAt, Memory}
use Rattle.nx_kept.specs.Kept.{closed_gate, line_behind, IsBehindOpenGates, IsTail, IsDamagedBehind}
use Rattle.nx_kept.specs.Taker.{Took, TookAll}
use Rattle.nx_kept.specs.declared.scan.ScanStep.{ScanStep}
use Rattle.nx_kept.specs.declared.scan.ScanStep.TheVariants.{Tail, Record, Damaged}
use Rattle.nx_kept.specs.declared.scan.Rest.{Rest}

module _ (is_record : List ℕ → Type 0) (longest : ℕ) where
  -- an open gate and a record of so many bytes
  pub record IsAtRecord (n : ℕ) (bytes : List ℕ) : Type 0 where
    pub gate : ℕ
    pub first : List ℕ
    pub rest : List ℕ
    pub is_open : gate ≢ closed_gate
    pub is_one : is_record first
    pub split : bytes ≡ gate ∷ (first ++ rest)
    pub size : n ≡ length first

  -- what a step tells of the bytes from a gate on
  abbrev pub Steps : List ℕ → ScanStep → Type 0
  Steps bytes Tail = IsTail longest bytes
  Steps bytes (Record n) = IsAtRecord n bytes
  Steps bytes (Damaged place) = IsDamagedBehind is_record longest place bytes

  -- the file is records behind open gates, which were taken, and a tail
  pub record TookRecords {T : Type 0} (takes : T → List ℕ → T → Type 0) (file : List ℕ)
      (old new : T) : Type 0 where
    pub records : List (List ℕ)
    pub front : List ℕ
    pub tail : List ℕ
    pub kept : IsBehindOpenGates is_record records front
    pub end : IsTail longest tail
    pub split : file ≡ front ++ tail
    pub taken : Took takes old records new

  -- The reading ended there: it is known where the tail stands, and the tail is at the front of
  -- what was read last.
  pub record Ends {T : Type 0} (takes : T → List ℕ → T → Type 0) (file read : List ℕ) (old new : T)
      (end : Rest) : Type 0 where
    pub all : TookRecords takes file old new
    pub gate : end.gate ≡ length all.front
    pub line : end.line ≡ line_behind all.front
    pub shown : take end.count read ≡ all.tail
    pub closed : IsTrue end.is_closed ↔ (all.tail ≡ closed_gate ∷ [])

-- the bytes are the file's up to the place, and then some more of it, or at most one byte of any
-- kind
pub record IsCutThere (place : ℕ) (file bytes : List ℕ) : Type 0 where
  pub rest : List ℕ
  pub split : bytes ≡ take place file ++ rest
  pub behind : ((n : ℕ) × (rest ≡ take n (drop place file))) ⊎ (length rest ≤ 1)

-- The file was records behind open gates, which were taken, and a tail, of which what is cut was
-- heard of. Now a closed gate is in the place of the tail, and a crash leaves just that.
pub record Settles {D T : Type 0} (is_record : List ℕ → Type 0) (longest : ℕ)
    (takes : T → List ℕ → T → Type 0) (hears_of_cut : T → ℕ → List ℕ → T → Type 0)
    (seen : D → List ℕ) (may_leave : D → List ℕ → Type 0) (old new : D) (before after : T)
    (gate : ℕ) : Type 0 where
  pub all : TookAll is_record longest takes hears_of_cut (seen old) before after
  pub place : gate ≡ length all.front
  pub closed : seen new ≡ all.front ++ closed_gate ∷ []
  pub durable : Only (seen new) (may_leave new)

-- why a reading failed: by its last call, or by the bytes alone
abbrev pub ReadsUpTo : {D : Type 0} → (faults : D → ℕ) (has_failed_to_read : D → Type 0) → OpenFault
    → D → D → Type 0
ReadsUpTo faults to_read Read old new = FailedOnce (faults old) (faults new) (to_read new)
ReadsUpTo faults to_read (DamagedAt line first) old new = faults new ≡ faults old
ReadsUpTo faults to_read Disk old new = ⊥
ReadsUpTo faults to_read Memory old new = ⊥
