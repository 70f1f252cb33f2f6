-- A scanner that takes a line whole, or none.
use Rattle.std.specs.Prelude.{◌≡◌, ℕ, ◌+◌, ◌≤◌, List, [], length, take, Some}
use Rattle.nx_fec.specs.air_files.AirFile.{IsLine, Line}
use Rattle.nx_fec.specs.air_files.Lines.{Scanning, line_bytes}
use Rattle.nx_fec.specs.air_files.Scanner.{kind_of}
use Rattle.nx_fec.specs.declared.air_files.lines.LineKind.{LineKind}

-- no line was open, and it took the one that a piece begins with, which says this, of so many bytes
-- with its end
pub record TakesLine (old new : Scanning) (piece : List ℕ) (kind : LineKind) (count : ℕ) : Type 0
  where
    pub line : Line
    pub says : kind_of line ≡ kind
    pub good : IsLine line
    pub front : take count piece ≡ line_bytes line
    pub within : count ≤ length piece
    pub empty : old.part ≡ []
    pub latest : new.latest ≡ Some line
    pub part : new.part ≡ []
    pub lines : new.lines ≡ old.lines + 1
    pub allowance : new.allowance + count ≡ old.allowance

-- it took nothing, but may have opened the next line
pub record Waits (old new : Scanning) : Type 0 where
  pub part : new.part ≡ old.part
  pub lines : new.lines ≡ old.lines
  pub allowance : new.allowance ≡ old.allowance
