-- What a reader of lines does where it reads, and where it doesn't.
use Rattle.std.specs.Prelude.{◌≡◌, ℕ, ◌<◌, Bool, true, false, List, drop, length, Option}
use Rattle.nx_fec.specs.air_files.AirFile.{Line}
use Rattle.nx_fec.specs.air_files.LineReading.{HasGivenAll, HasGivenLines, counted_of}
use Rattle.nx_fec.specs.private.WholeLines.{TakesLine, Waits}
use Rattle.nx_fec.specs.declared.air_files.lines.LineKind.{LineKind}
use Rattle.nx_fec.specs.declared.air_files.line_reader.LineReader.{LineReader}

-- it read more bytes, or the input was at its end
abbrev pub HasReadOn : {R : Type 0} → (R → Option (List ℕ)) → ℕ → Option (List ℕ) → LineReader R
    → List Line → Bool → Type 0
HasReadOn remaining limit first reader lines true =
    HasGivenLines remaining limit first reader lines
HasReadOn remaining limit first reader lines false =
    HasGivenAll remaining limit first reader lines

-- it has a piece, of which nothing was looked at yet, or none
abbrev pub IsReadOn : {R : Type 0} → LineReader R → LineReader R → Bool → Type 0
IsReadOn old new true =
    (0 < length new.piece) × (new.scanner ≡ old.scanner) × (new.is_over ≡ false)
    × ((counted_of new).failures ≡ 0)
IsReadOn old new false = (counted_of new).failures ≡ 0

-- it gave the line with which its piece begins, which says this
pub record GivesShort {R : Type 0} (old new : LineReader R) (kind : LineKind) : Type 0 where
  pub count : ℕ
  pub takes : TakesLine old.scanner new.scanner old.piece kind count
  pub piece : new.piece ≡ drop count old.piece
  pub over : new.is_over ≡ false
  pub reader : new.reader ≡ old.reader

-- it gave none, but its scanner may have opened the next line
pub record HasGivenNone {R : Type 0} (old new : LineReader R) : Type 0 where
  pub waits : Waits old.scanner new.scanner
  pub piece : new.piece ≡ old.piece
  pub over : new.is_over ≡ old.is_over
  pub reader : new.reader ≡ old.reader
