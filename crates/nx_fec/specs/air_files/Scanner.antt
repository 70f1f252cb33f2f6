-- What the parts of a scanner say of the line that is open, or of the line that the last byte
-- ended; and how it scans a piece (this profile).
use Rattle.std.specs.Prelude.{◌≡◌, ◌<◌, ◌≤◌, ◌+◌, ℕ, Bool, List, [], ◌++◌, length, take, Option, Some, None}
use Rattle.std.specs.Prelude.{Result, IfErr, IfOk, IfSome, MatchResult, OnOk, option_to_list}
use Rattle.nx_fec.specs.air_files.AirFile.{IsLine, Line, accept_station, accept_subject, elements, moment, refuse_station, refuse_subject}
use Rattle.nx_fec.specs.air_files.Lines.{IsAtByte, Scanning, Scans, StopsIn, elements_of}
use Rattle.nx_fec.specs.declared.fault.LineFault.{LineFault}
use Rattle.nx_fec.specs.declared.air_files.lines.LineKind.{LineKind}
use Rattle.nx_fec.specs.declared.air_files.lines.LineKind.TheVariants.{Moment, Elements, RefuseStation, AcceptStation, RefuseSubject, AcceptSubject}

-- what a line says but for its elements
abbrev pub kind_of : Line → LineKind
kind_of (moment n) = Moment n
kind_of (elements mark bits) = Elements mark
kind_of (refuse_station mark letter) = RefuseStation mark letter
kind_of (accept_station mark letter) = AcceptStation mark letter
kind_of (refuse_subject mark letter) = RefuseSubject mark letter
kind_of (accept_subject mark letter) = AcceptSubject mark letter

-- the line that says so, with these elements
abbrev pub line_with : LineKind → List Bool → Line
line_with (Moment n) bits = moment n
line_with (Elements mark) bits = elements mark bits
line_with (RefuseStation mark letter) bits = refuse_station mark letter
line_with (AcceptStation mark letter) bits = accept_station mark letter
line_with (RefuseSubject mark letter) bits = refuse_subject mark letter
line_with (AcceptSubject mark letter) bits = accept_subject mark letter

-- what a scanner keeps, by the line that was ended and the line that is open
abbrev pub kind_kept : Option Line → Option LineKind
kind_kept None = None
kind_kept (Some line) = Some (kind_of line)

abbrev pub elements_kept : Option Line → List Bool
elements_kept None = []
elements_kept (Some line) = elements_of line

-- A scanner takes so many bytes of a piece, up to and with its first line feed, or all where it has
-- none. Or a byte of the piece is the first fault of the file, and those before it were taken.
pub record ScansPiece (old new : Scanning) (piece : List ℕ) (outcome : Result ℕ LineFault) : Type 0
  where
    -- behind whatever bytes and lines: the line that was ended, if one was, is the latest
    pub bytes : (limit : ℕ) (before : List ℕ) (lines : List Line) → Scans limit old before lines
        → MatchResult outcome
        (λ count. Scans limit new (before ++ take count piece)
        (lines ++ option_to_list new.latest))
        (λ why. StopsIn limit new before piece lines why)
    pub at_byte : IfErr outcome IsAtByte
    pub some : IfOk outcome (λ count. (0 < count) × (count ≤ length piece))
    pub latest : OnOk outcome (IfSome new.latest IsLine)
    -- where it ended no line it took the whole piece
    pub whole : IfOk outcome (λ count. new.latest ≡ None → count ≡ length piece)
    pub allowance : IfOk outcome (λ count. new.allowance + count ≡ old.allowance)
