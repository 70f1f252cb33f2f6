-- What runs over the lines of an air file share: where a fault may stand, what was taken, and what
-- was given for it (this profile).
use Rattle.std.specs.Prelude.{◌≡◌, ℕ, ◌≤◌, List, ◌++◌, length, Option, ⊤}
use Rattle.nx_fec.specs.air_files.AirFile.{Line}
use Rattle.nx_fec.specs.air_files.Lines.{IsCause, StopsAt, air_limit, file_of}
use Rattle.nx_fec.specs.Transfers.{Extent, HasWritten}
use Rattle.nx_fec.specs.declared.fault.LineFault.{LineFault}
use Rattle.nx_fec.specs.declared.fault.LineFault.TheVariants.{TooLong, LineLong, LineCut, BadLine}

-- a line that is cut is a fault only where `AtEnd` holds; each other fault may come anywhere
abbrev pub IsCutOnlyAtEnd : Type 0 → LineFault → Type 0
IsCutOnlyAtEnd AtEnd TooLong = ⊤
IsCutOnlyAtEnd AtEnd (LineLong line) = ⊤
IsCutOnlyAtEnd AtEnd (LineCut line) = AtEnd
IsCutOnlyAtEnd AtEnd (BadLine line) = ⊤

-- In bytes of this extent a read may have failed here: behind good lines and the beginning of one
-- more, within the limit. It leaves what follows, and `holds` holds of the lines.
abbrev pub HasReadFault : Extent → (List Line → Type 0) → List ℕ → Type 0
HasReadFault extent holds bytes = StopsAt bytes (λ lines rest more.
    (length (file_of lines ++ rest) ≤ air_limit) × extent.is_left more × holds lines)

-- The air file of these bytes has the fault `why`, its first: good lines and the beginning of one
-- more stand before it. And `holds` holds of the lines.
abbrev pub HasFaultAfter : (List Line → Type 0) → List ℕ → LineFault → Type 0
HasFaultAfter holds bytes why = StopsAt bytes (λ lines rest more.
    IsCause air_limit (length (file_of lines ++ rest)) lines rest more why × holds lines)

-- bytes that wait to be written, and how many were written before them
pub record Waiting : Type 0 where
  pub bytes : List ℕ
  pub sent : ℕ

-- these bytes were given: the first of them are written, and the others wait
pub record HasGiven (old new : Option (List ℕ)) (batch : Waiting) (given : List ℕ) : Type 0 where
  pub done : List ℕ
  pub written : HasWritten old new done batch.sent
  pub whole : given ≡ done ++ batch.bytes
