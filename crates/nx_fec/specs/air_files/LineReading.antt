-- How a reader of lines stands: which lines the bytes have that were read, and what stopped it
-- (this profile).
use Rattle.std.specs.Prelude.{◌≡◌, ℕ, ◌+◌, ◌*◌, ◌<◌, Bool, true, false, if◌then◌else◌, List, [], ◌∷◌, ◌++◌, length}
use Rattle.std.specs.Prelude.{Option, Some, IsSomeAnd, ⊤}
use Rattle.std.specs.Io.KnownBytes.{Consumes, IsAtEnd}
use Rattle.nx_fec.specs.Transfers.{CountedDevice}
use Rattle.nx_fec.specs.air_files.AirFile.{IsLine, Line}
use Rattle.nx_fec.specs.air_files.LineRuns.{IsCutOnlyAtEnd}
use Rattle.nx_fec.specs.air_files.Lines.{IsAirFile, IsCause, IsFaultless, Scans, StopsAt, file_of}
use Rattle.nx_fec.specs.air_files.Scanner.{kind_of}
use Rattle.nx_fec.specs.declared.fault.AirFault.{AirFault}
use Rattle.nx_fec.specs.declared.fault.AirFault.TheVariants.{Read, Line as InLine}
use Rattle.nx_fec.specs.declared.fault.LineFault.{LineFault}
use Rattle.nx_fec.specs.declared.air_files.line_reader.LineReader.{LineReader}
use Rattle.nx_fec.specs.declared.air_files.line_reader.NextLine.{NextLine}
use Rattle.nx_fec.specs.declared.air_files.line_reader.NextLine.TheVariants as next

-- the line that was given last, if one was
abbrev pub latest_of : {R : Type 0} → LineReader R → Option Line
latest_of reader = reader.scanner.latest

-- how many lines were given
abbrev pub lines_given : {R : Type 0} → LineReader R → ℕ
lines_given reader = reader.scanner.lines

-- whether it said that the piece is used up, so that it reads when it is asked again
abbrev pub is_over : {R : Type 0} → LineReader R → Bool
is_over reader = reader.is_over

-- the counted reader that it reads from
abbrev pub counted_of : {R : Type 0} → LineReader R → CountedDevice R
counted_of reader = reader.reader.now

-- it holds the same borrow of that as another
abbrev pub HoldsSame : {R : Type 0} → LineReader R → LineReader R → Type 0
HoldsSame old new = new.reader.ghost_name ≡ old.reader.ghost_name

-- how many answers it gives at most before the end
abbrev pub answers_left : {R : Type 0} → LineReader R → ℕ
answers_left reader = 2 * reader.scanner.allowance + (if reader.is_over then 0 else 1)

-- Since the input held `first`, these lines were given. They are those of the bytes that were
-- looked at. The others wait that were read; none does where it said that the piece is used up.
pub record HasGivenLines {R : Type 0} (remaining : R → Option (List ℕ)) (limit : ℕ)
    (first : Option (List ℕ)) (reader : LineReader R) (lines : List Line) : Type 0 where
  pub looked_at : List ℕ
  pub scans : Scans limit reader.scanner looked_at lines
  pub consumed : Consumes first (remaining reader.reader.now.inner) (looked_at ++ reader.piece)
  pub spent : reader.is_over ≡ true → reader.piece ≡ []

-- the input is at its end, and these are the lines of its file
pub record HasGivenAll {R : Type 0} (remaining : R → Option (List ℕ)) (limit : ℕ)
    (first : Option (List ℕ)) (reader : LineReader R) (lines : List Line) : Type 0 where
  pub bytes : List ℕ
  pub consumed : Consumes first (remaining reader.reader.now.inner) bytes
  pub at_end : IsAtEnd (remaining reader.reader.now.inner)
  pub file : IsAirFile limit bytes lines
  pub counted : lines_given reader ≡ length lines

-- The bytes that were read have this fault, which is their first: it comes behind these lines, and
-- the beginning of one more. A line is cut only at the end of the input.
pub record HasFirstFault {R : Type 0} (remaining : R → Option (List ℕ)) (limit : ℕ)
    (first : Option (List ℕ)) (reader : LineReader R) (lines : List Line) (why : LineFault)
    : Type 0 where
  pub bytes : List ℕ
  pub consumed : Consumes first (remaining reader.reader.now.inner) bytes
  pub cut_only_at_end : IsCutOnlyAtEnd (IsAtEnd (remaining reader.reader.now.inner)) why
  pub stops : StopsAt bytes (λ before rest more.
      IsCause limit (length (file_of before ++ rest)) before rest more why × (before ≡ lines))

-- no fault stands in the bytes that were read, and all were looked at
pub record HasPassed {R : Type 0} (remaining : R → Option (List ℕ)) (limit : ℕ)
    (first : Option (List ℕ)) (reader : LineReader R) : Type 0 where
  pub bytes : List ℕ
  pub consumed : Consumes first (remaining reader.reader.now.inner) bytes
  pub faultless : IsFaultless limit bytes

-- what it gives next, behind these lines: one more, or none before it reads, or the end of the file
abbrev pub GivesNext : {R : Type 0} → (R → Option (List ℕ)) → ℕ → Option (List ℕ) → LineReader R
    → List Line → NextLine → Type 0
GivesNext remaining limit first reader lines (next.Line kind) =
    (line : Line) × (latest_of reader ≡ Some line)
    × HasGivenLines remaining limit first reader (lines ++ line ∷ [])
GivesNext remaining limit first reader lines next.PieceOver =
    HasGivenLines remaining limit first reader lines
GivesNext remaining limit first reader lines next.End =
    HasGivenAll remaining limit first reader lines

-- why it gives no line behind these: a read failed, and no byte waits; or the file has this fault
abbrev pub EndsEarly : {R : Type 0} → (R → Option (List ℕ)) → ℕ → Option (List ℕ) → LineReader R
    → List Line → AirFault → Type 0
EndsEarly remaining limit first reader lines Read =
    HasGivenLines remaining limit first reader lines × (reader.piece ≡ [])
EndsEarly remaining limit first reader lines (InLine why) =
    HasFirstFault remaining limit first reader lines why

-- what it answers says what the line says that it gave last
abbrev pub SaysLatest : Option Line → NextLine → Type 0
SaysLatest latest (next.Line kind) = IsSomeAnd latest (λ line. IsLine line × (kind ≡ kind_of line))
SaysLatest latest next.PieceOver = ⊤
SaysLatest latest next.End = ⊤

-- It says that the piece is used up before it reads, and reads only where it had said so.
abbrev pub SaysOver : Bool → Bool → NextLine → Type 0
SaysOver before now (next.Line kind) = now ≡ false
SaysOver before now next.PieceOver = now ≡ true
SaysOver before now next.End = before ≡ true

-- fewer answers are left, but at the end
abbrev pub LeavesFewer : ℕ → ℕ → NextLine → Type 0
LeavesFewer before now (next.Line kind) = now < before
LeavesFewer before now next.PieceOver = now < before
LeavesFewer before now next.End = ⊤
