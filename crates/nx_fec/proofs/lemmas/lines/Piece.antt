-- What a scanner answers to a piece.
use Rattle.std.proofs.Common.{◌≡◌, ℕ, ◌+◌, ◌<◌, ◌≤◌, length, take, List, [], ◌∷◌, ◌++◌}
use Rattle.std.proofs.Common.{None, Some, Result, Ok, Err, IfOk, IfSome, option_to_list}
use Rattle.std.proofs.Common.{sym, ap, subst, ◌∙◌, append-nil, arith}
use Rattle.std.proofs.ByRecursion.{All-append}
use Rattle.std.proofs.lemmas.List.{length-append, length-take-le}
use Rattle.std.proofs.lemmas.List.Concat.{flat_map-append}
use Rattle.nx_fec.specs.air_files.AirFile.{IsLine, Line}
use Rattle.nx_fec.specs.air_files.Lines.{IsAtByte, IsBeginning, Scanning, Scans, StopsIn, file_of, line_bytes}
use Rattle.nx_fec.specs.air_files.Scanner.{ScansPiece}
use Rattle.nx_fec.specs.private.WholeLines.{TakesLine, Waits}
use Rattle.nx_fec.specs.declared.air_files.lines.LineKind.{LineKind}
use Rattle.nx_fec.specs.declared.fault.LineFault.{LineFault}

-- it took so many bytes
pub piece-taken : (old new : Scanning) (piece : List ℕ) (count : ℕ)
    → ((limit : ℕ) (before : List ℕ) (lines : List Line) → Scans limit old before lines
    → Scans limit new (before ++ take count piece) (lines ++ option_to_list new.latest))
    → 0 < count → count ≤ length piece → IfSome new.latest IsLine
    → (new.latest ≡ None → count ≡ length piece) → new.allowance + count ≡ old.allowance
    → ScansPiece old new piece (Ok count)
piece-taken old new piece count bytes some within latest whole allowance = record {
  bytes = bytes;
  at_byte = tt;
  some = (some, within);
  latest = latest;
  whole = whole;
  allowance = allowance;
}

-- it stopped at a byte
pub piece-stopped : (old new : Scanning) (piece : List ℕ) (why : LineFault)
    → ((limit : ℕ) (before : List ℕ) (lines : List Line) → Scans limit old before lines
    → StopsIn limit new before piece lines why)
    → IsAtByte why → ScansPiece old new piece (Err why)
piece-stopped old new piece why bytes at_byte = record {
  bytes = bytes;
  at_byte = at_byte;
  some = tt;
  latest = tt;
  whole = tt;
  allowance = tt;
}
