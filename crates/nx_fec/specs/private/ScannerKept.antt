-- The bytes, the line and the elements that a scanner keeps: those of the line that is open, or of
-- the line that the last byte ended.
use Rattle.std.specs.Prelude.{◌≡◌, ℕ, Bool, List, [], Option, Some, None, IsSome}
use Rattle.nx_fec.specs.air_files.AirFile.{IsLine, Line, accept_station, accept_subject, elements, moment, refuse_station, refuse_subject, spelling}
use Rattle.nx_fec.specs.air_files.Lines.{elements_of}
use Rattle.nx_fec.specs.air_files.Scanner.{line_with}
use Rattle.nx_fec.specs.declared.air_files.lines.LineKind.{LineKind}

-- the line names its channel
abbrev pub IsMarked : Line → Type 0
IsMarked (moment n) = ⊥
IsMarked (elements mark bits) = IsSome mark
IsMarked (refuse_station mark letter) = IsSome mark
IsMarked (accept_station mark letter) = IsSome mark
IsMarked (refuse_subject mark letter) = IsSome mark
IsMarked (accept_subject mark letter) = IsSome mark

-- the line is a command that names no channel
abbrev pub IsUnmarkedCommand : Line → Type 0
IsUnmarkedCommand (moment n) = ⊥
IsUnmarkedCommand (elements mark bits) = ⊥
IsUnmarkedCommand (refuse_station mark letter) = mark ≡ None
IsUnmarkedCommand (accept_station mark letter) = mark ≡ None
IsUnmarkedCommand (refuse_subject mark letter) = mark ≡ None
IsUnmarkedCommand (accept_subject mark letter) = mark ≡ None

-- the line is a command that names its channel
abbrev pub IsMarkedCommand : Line → Type 0
IsMarkedCommand (moment n) = ⊥
IsMarkedCommand (elements mark bits) = ⊥
IsMarkedCommand (refuse_station mark letter) = IsSome mark
IsMarkedCommand (accept_station mark letter) = IsSome mark
IsMarkedCommand (refuse_subject mark letter) = IsSome mark
IsMarkedCommand (accept_subject mark letter) = IsSome mark

-- The line of this kind, with these elements, is one of an air file. These bytes spell it, and
-- these are all its elements.
pub record SpellsLine (kind : LineKind) (bits : List Bool) (bytes : List ℕ) : Type 0 where
  pub good : IsLine (line_with kind bits)
  pub spelled : bytes ≡ spelling (line_with kind bits)
  pub own : elements_of (line_with kind bits) ≡ bits

-- the line that was ended, and the bytes of the line that is open: those that are kept, unless they
-- ended
abbrev pub line_ended : Option LineKind → List Bool → Option Line
line_ended None bits = None
line_ended (Some kind) bits = Some (line_with kind bits)

abbrev pub part_of : Option LineKind → List ℕ → List ℕ
part_of None kept = kept
part_of (Some kind) kept = []

-- a line that was ended is a line of these bytes, and a line that is open has no elements yet
abbrev pub IsKept : Option LineKind → List Bool → List ℕ → Type 0
IsKept None bits kept = bits ≡ []
IsKept (Some kind) bits kept = SpellsLine kind bits kept

-- the bytes that are kept, by the line that was ended and the line that is open
abbrev pub bytes_kept : Option Line → List ℕ → List ℕ
bytes_kept None part = part
bytes_kept (Some line) part = spelling line
