-- What a reader of the lines of any bytes does where it gives one, and where it reads.
use Rattle.std.specs.Prelude.{◌≡◌, ◌⊎◌, ℕ, ◌+◌, ◌<◌, ◌≤◌, Bool, true, false, List, [], ◌∷◌, ◌++◌, Option, IsSomeAnd, drop}
use Rattle.std.specs.Prelude.{length, take, option_to_list, map, Some, None, ⊤}
use Rattle.std.specs.Io.KnownBytes.{Consumes, IsAtEnd, Keeps}
use Rattle.nx_fec.specs.Transfers.{count_of, max_piece}
use Rattle.nx_fec.specs.air_files.AirFile.{IsLine, Line}
use Rattle.nx_fec.specs.air_files.Scanner.{kind_of}
use Rattle.nx_watch.specs.LinesTold.{IsReason}
use Rattle.nx_watch.specs.Stamp.{stamp}
use Rattle.nx_watch.specs.Stamps.{bytes_given, counted_of, stamps_of}
use Rattle.nx_watch.specs.declared.lines.any_lines.AnyLine.{AnyLine}
use Rattle.nx_watch.specs.declared.lines.any_lines.AnyLine.TheVariants.{Known, Unknown, PieceOver}
use Rattle.nx_watch.specs.declared.lines.any_lines.AnyLines.{AnyLines}
use Rattle.nx_watch.specs.declared.lines.any_lines.More.{More}
use Rattle.nx_watch.specs.declared.lines.any_lines.More.TheVariants.{Bytes, End, Failed}
use Rattle.nx_watch.specs.declared.stamped.StampedReader.{StampedReader}
use Rattle.nx_watch.specs.private.Scanning.{IsScanning}

-- the bytes that were read and of which no line was given yet
abbrev pub waiting : AnyLines → List ℕ
waiting lines = lines.piece

-- how many more bytes it can look at
abbrev pub reach : AnyLines → ℕ
reach lines = lines.scanner.scanner.allowance

-- the line that was given last, if it is one of an air file
abbrev pub latest_of : AnyLines → Option Line
latest_of lines = lines.scanner.scanner.latest

-- of these bytes, which were looked at, it gave these lines
abbrev pub HasGiven : AnyLines → List ℕ → List (Option Line) → Type 0
HasGiven lines bytes given = IsScanning lines.scanner bytes given

-- the lines that were given
abbrev pub lines_given : AnyLine → Option Line → List (Option Line)
lines_given (Known kind) latest = map Some (option_to_list latest)
lines_given (Unknown why) latest = None ∷ []
lines_given PieceOver latest = []

-- what is said of a line is what the line says that was given last
abbrev pub SaysLine : Option Line → AnyLine → Type 0
SaysLine latest (Known kind) = IsSomeAnd latest (λ line. IsLine line × (kind ≡ kind_of line))
SaysLine latest (Unknown why) = ⊤
SaysLine latest PieceOver = ⊤

-- a line that isn't understood, behind these lines of the bytes, has no effect for the reason that
-- is said, whatever comes behind these
abbrev pub SaysReason : AnyLine → List ℕ → List (Option Line) → Type 0
SaysReason (Known kind) bytes lines = ⊤
SaysReason (Unknown why) bytes lines = (more : List ℕ) → IsReason (bytes ++ more) lines None why
SaysReason PieceOver bytes lines = ⊤

-- so many bytes of a piece were looked at: some for a line, and else all
abbrev pub HasLooked : AnyLine → List ℕ → ℕ → Type 0
HasLooked (Known kind) piece count = 0 < count
HasLooked (Unknown why) piece count = 0 < count
HasLooked PieceOver piece count = count ≡ length piece

-- less of a piece is left where it goes on, and else nothing
abbrev pub GoesOn : List ℕ → List ℕ → Bool → Type 0
GoesOn old new true = length new < length old
GoesOn old new false = new ≡ []

-- it looked at the next bytes, which end the line that it gives, or none
pub record LooksOn (old new : AnyLines) (given : AnyLine) : Type 0 where
  pub count : ℕ
  pub within : count ≤ length old.piece
  pub looked : HasLooked given old.piece count
  pub rest : new.piece ≡ drop count old.piece
  pub scans : (bytes : List ℕ) (lines : List (Option Line)) → IsScanning old.scanner bytes lines
      → IsScanning new.scanner (bytes ++ take count old.piece)
      (lines ++ lines_given given new.scanner.scanner.latest)
  pub reason : (bytes : List ℕ) (lines : List (Option Line)) → IsScanning old.scanner bytes lines
      → SaysReason given (bytes ++ take count old.piece) lines

-- a read was made that gave so many bytes, and this stood then
abbrev pub HasStamped : {R D W N : Type 0} → ℕ → StampedReader R D W N → StampedReader R D W N → D
    → W → N → Type 0
HasStamped gave old new disk writer notices =
    stamps_of new ≡ stamp (bytes_given old) gave disk writer notices ∷ stamps_of old

-- a read brought these bytes
pub record HasReadBytes {R D W N : Type 0} (remaining : R → Option (List ℕ))
    (old new : StampedReader R D W N) (before after : AnyLines) : Type 0 where
  pub some : 0 < length after.piece
  pub few : length after.piece ≤ max_piece
  pub consumed : Consumes (remaining (counted_of old).inner) (remaining (counted_of new).inner)
      after.piece
  pub room : after.room + length after.piece ≡ before.room
  pub given : bytes_given new ≡ count_of (bytes_given old + length after.piece)
  pub well : (counted_of new).failures ≡ 0

-- or none, since it failed
pub record HasFailed {R D W N : Type 0} (remaining : R → Option (List ℕ))
    (old new : StampedReader R D W N) : Type 0 where
  pub keeps : Keeps (remaining (counted_of old).inner) (remaining (counted_of new).inner)
  pub one : (counted_of new).failures ≡ 1
  pub given : bytes_given new ≡ count_of (bytes_given old)

-- or since the input had ended
pub record HasEnded {R D W N : Type 0} (remaining : R → Option (List ℕ))
    (old new : StampedReader R D W N) : Type 0 where
  pub keeps : Keeps (remaining (counted_of old).inner) (remaining (counted_of new).inner)
  pub at_end : IsAtEnd (remaining (counted_of new).inner)
  pub well : (counted_of new).failures ≡ 0
  pub given : bytes_given new ≡ count_of (bytes_given old)

-- what came of it, where more was asked for; at the limit no read is made
abbrev pub HasReadOn : {R D W N : Type 0} → (R → Option (List ℕ)) → StampedReader R D W N
    → StampedReader R D W N → D → W → N → AnyLines → AnyLines → More → Type 0
HasReadOn remaining old new disk writer notices before after Bytes =
    HasStamped (length after.piece) old new disk writer notices
    × HasReadBytes remaining old new before after
HasReadOn remaining old new disk writer notices before after End =
    ((before.room ≡ 0) × (new ≡ old))
    ⊎ (HasStamped 0 old new disk writer notices × HasEnded remaining old new)
HasReadOn remaining old new disk writer notices before after Failed =
    HasStamped 0 old new disk writer notices × HasFailed remaining old new
