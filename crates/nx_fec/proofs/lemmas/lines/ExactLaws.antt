-- An answer that tells the outcome of a whole file is the only one that may be given to it.
use Rattle.std.proofs.Common.{◌≡◌, ℕ, Bool, List, Option, None, Some, IfSome, Result, Ok, Err}
use Rattle.std.proofs.Common.{MatchResult, IsErrAnd, ◌⊎◌, inl, inr, ap, ◌∙◌, refl}
use Rattle.nx_fec.specs.air_files.Lines.{HasFault, IsBitFile}
use Rattle.nx_fec.specs.Runs.{run_fault, ExplainsReading, IsOutside}
use Rattle.nx_fec.specs.Transfers.{whole_input}
use Rattle.nx_fec.specs.declared.fault.LineFault.{LineFault}
use Rattle.nx_fec.specs.declared.fault.LineFault.TheVariants as file
use Rattle.nx_fec.specs.declared.fault.RunFault.{RunFault}
use Rattle.nx_fec.specs.declared.fault.RunFault.TheVariants.{Read, FileTooLong, LineLong, LineCut}
use Rattle.nx_fec.specs.declared.fault.RunFault.TheVariants.{BadLine, Ragged, NoSuchCharacter}
use Rattle.nx_fec.specs.declared.fault.RunFault.TheVariants.{Write, Memory}
use Rattle.nx_fec.proofs.lemmas.lines.LineLaws.{HasFault-unique, IsAirFile-good, IsBitFile-unique}

-- the fault of an answer is that of the file, or from outside
ExplainsReading-cases : (limit : ℕ) (xs : List ℕ) (fault : RunFault)
    → ExplainsReading whole_input limit xs fault
    → ((why : LineFault) × (fault ≡ run_fault why) × HasFault limit xs why) ⊎ IsOutside fault
ExplainsReading-cases limit xs Read h = inr tt
ExplainsReading-cases limit xs FileTooLong h = inl (file.TooLong, refl, h)
ExplainsReading-cases limit xs (LineLong line) h = inl (file.LineLong line, refl, h)
ExplainsReading-cases limit xs (LineCut line) h = inl (file.LineCut line, refl, h.1)
ExplainsReading-cases limit xs (BadLine line) h = inl (file.BadLine line, refl, h)
ExplainsReading-cases limit xs (Ragged bits) h = absurd h
ExplainsReading-cases limit xs (NoSuchCharacter at) h = absurd h
ExplainsReading-cases limit xs (Write written) h = absurd h
ExplainsReading-cases limit xs (Memory error) h = inr tt

module _ {V : Type 0} (items : V → List Bool) where
  -- what an answer tells of a whole file
  abbrev Tells : ℕ → Result V RunFault → List ℕ → Type 0
  Tells limit r xs = MatchResult r (λ v. Unit {0} × IsBitFile limit xs (items v))
      (λ e. ExplainsReading whole_input limit xs e)

  fault_at : (limit : ℕ) (r : Result V RunFault) (xs : List ℕ) → Tells limit r xs
      → (why : LineFault) → HasFault limit xs why
      → IsErrAnd r (λ e. (e ≡ run_fault why) ⊎ IsOutside e)
  fault_at limit (Ok v) xs h why refused =
      absurd (IsAirFile-good limit xs h.1.lines why h.1.file refused)
  fault_at limit (Err e) xs h why refused =
      elim (ExplainsReading-cases limit xs e h) [
        | inl p ↦ inl (p.1 ∙ ap run_fault (HasFault-unique limit xs p.0 why p.2 refused))
        | inr outside ↦ inr outside
      ]

  good_at : (limit : ℕ) (r : Result V RunFault) (xs : List ℕ) → Tells limit r xs
      → (bits : List Bool) → IsBitFile limit xs bits
      → MatchResult r (λ v. items v ≡ bits) IsOutside
  good_at limit (Ok v) xs h bits good = IsBitFile-unique limit xs (items v) bits h.1 good
  good_at limit (Err e) xs h bits good =
      elim (ExplainsReading-cases limit xs e h) [
        | inl p ↦ absurd (IsAirFile-good limit xs good.lines p.0 good.file p.2)
        | inr outside ↦ outside
      ]

  pub exact-fault : (old : Option (List ℕ)) (limit : ℕ) (r : Result V RunFault)
      → IfSome old (λ xs. MatchResult r (λ v. Unit {0} × IsBitFile limit xs (items v))
      (λ e. ExplainsReading whole_input limit xs e))
      → IfSome old (λ xs. (why : LineFault) → HasFault limit xs why
      → IsErrAnd r (λ e. (e ≡ run_fault why) ⊎ IsOutside e))
  exact-fault None limit r h = tt
  exact-fault (Some xs) limit r h = fault_at limit r xs h

  pub exact-good : (old : Option (List ℕ)) (limit : ℕ) (r : Result V RunFault)
      → IfSome old (λ xs. MatchResult r (λ v. Unit {0} × IsBitFile limit xs (items v))
      (λ e. ExplainsReading whole_input limit xs e))
      → IfSome old (λ xs. (bits : List Bool) → IsBitFile limit xs bits
      → MatchResult r (λ v. items v ≡ bits) IsOutside)
  exact-good None limit r h = tt
  exact-good (Some xs) limit r h = good_at limit r xs h
