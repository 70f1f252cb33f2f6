-- Lemmas on what a scanner has read, and on the faults that explain why it stopped.
use Rattle.std.proofs.Common.{◌≡◌, ℕ, arith, length, List, [], ◌∷◌, ◌++◌, ap, subst, Option, None}
use Rattle.std.proofs.Common.{Some, IfSome, Result, Ok, Err, IfErr}
use Rattle.nx_fec.specs.air_files.AirFile.{Line}
use Rattle.nx_fec.specs.air_files.Lines.{HasFault, IsAtByte, IsCause, IsFaultless, Scanning, Scans}
use Rattle.nx_fec.specs.air_files.Lines.{Splits}
use Rattle.nx_fec.specs.Runs.{run_fault, IsOutside}
use Rattle.nx_fec.specs.declared.fault.LineFault.{LineFault}
use Rattle.nx_fec.specs.declared.fault.LineFault.TheVariants as file
use Rattle.nx_fec.specs.declared.fault.RunFault.{RunFault}
use Rattle.nx_fec.specs.declared.fault.RunFault.TheVariants.{Read}

-- no fault stands in the bytes that a scanner took
pub Scans-faultless : (limit : ℕ) (scanner : Scanning) (bytes : List ℕ) (lines : List Line)
    → Scans limit scanner bytes lines → IsFaultless limit bytes
Scans-faultless limit scanner bytes lines h =
    record {
      lines = lines;
      rest = scanner.part;
      splits = h.splits;
      within = omega (arith, h.allowance);
    }

-- a cause after good lines and the beginning of one more is a fault of the file
pub HasFault-cause : (limit : ℕ) (bytes : List ℕ) (lines : List Line) (rest more : List ℕ)
    (why : LineFault) → Splits bytes lines rest
    → IsCause limit (length bytes) lines rest more why → HasFault limit (bytes ++ more) why
HasFault-cause limit bytes lines rest more why s cause = record {
  lines = lines;
  rest = rest;
  more = more;
  whole = ap (λ l. l ++ more) s.whole;
  each = s.each;
  part = s.part;
  here = subst (λ l. IsCause limit (length l) lines rest more why) s.whole cause;
}

-- a fault of the file is none of the reader or of memory
pub run_fault-inside : (why : LineFault) → IsOutside (run_fault why) → ⊥
run_fault-inside file.TooLong h = h
run_fault-inside (file.LineLong line) h = h
run_fault-inside (file.LineCut line) h = h
run_fault-inside (file.BadLine line) h = h

-- the same cause, with more bytes after it
pub IsCause-more : (limit front : ℕ) (lines : List Line) (rest more ys : List ℕ) (why : LineFault)
    → IsAtByte why → IsCause limit front lines rest more why
    → IsCause limit front lines rest (more ++ ys) why
IsCause-more limit front lines rest [] ys file.TooLong at h = absurd h
IsCause-more limit front lines rest [] ys (file.LineLong line) at h = absurd h
IsCause-more limit front lines rest [] ys (file.LineCut line) at h = absurd at
IsCause-more limit front lines rest [] ys (file.BadLine line) at h = absurd h
IsCause-more limit front lines rest (byte ∷ more) ys file.TooLong at h = h
IsCause-more limit front lines rest (byte ∷ more) ys (file.LineLong line) at h = h
IsCause-more limit front lines rest (byte ∷ more) ys (file.LineCut line) at h = absurd at
IsCause-more limit front lines rest (byte ∷ more) ys (file.BadLine line) at h = h

pub IfSome-always : (o : Option (List ℕ)) (P : List ℕ → Type 0) → ((xs : List ℕ) → P xs)
    → IfSome o P
IfSome-always None P h = tt
IfSome-always (Some xs) P h = h xs

-- a fault of the file is no failed read
pub run_fault-not_read : {T : Type 0} (why : LineFault)
    → ◌≡◌ {A = Result T RunFault} (Err (run_fault why)) (Err Read) → ⊥
run_fault-not_read file.TooLong e = cc
run_fault-not_read (file.LineLong line) e = cc
run_fault-not_read (file.LineCut line) e = cc
run_fault-not_read (file.BadLine line) e = cc

-- one error, at two results
pub Err-same : {T U E : Type 0} (e f : E) → ◌≡◌ {A = Result T E} (Err e) (Err f)
    → ◌≡◌ {A = Result U E} (Err e) (Err f)
Err-same {T} {U} {E} e f h = let same : e ≡ f = cc in let out : E → Result U E = λ x. Err x in
    ap out same
