-- An open kept log.
use Rattle.std.specs.Prelude.{◌≡◌, ℕ, List, [], ◌∷◌, ◌++◌, length}
use Rattle.nx_kept.specs.Disk.{Only}
use Rattle.nx_kept.specs.Kept.{closed_gate, IsBehindOpenGates}
use Rattle.nx_kept.specs.declared.log.KeptLog.{KeptLog}

module _ {D G : Type 0} (seen : D → List ℕ) (may_leave : D → List ℕ → Type 0) where
  -- the file is these bytes and a closed gate, whose place is known, and a crash leaves just that
  pub record IsAtRest (front : List ℕ) (log : KeptLog D G) : Type 0 where
    pub file : seen log.device ≡ front ++ closed_gate ∷ []
    pub gate : log.gate ≡ length front
    pub durable : Only (seen log.device) (may_leave log.device)

  -- the file is these records behind open gates and a closed gate, and a crash leaves just that
  pub record Keeps (is_record : List ℕ → Type 0) (records : List (List ℕ)) (log : KeptLog D G)
      : Type 0 where
    pub front : List ℕ
    pub kept : IsBehindOpenGates is_record records front
    pub at_rest : IsAtRest front log
