-- The lines of a whole air file, its first fault, and its elements (this profile).
use Rattle.std.specs.Prelude.{◌≡◌, ◌≢◌, ℕ, ◌+◌, ◌<◌, ◌≤◌, Bool, List, [], ◌∷◌, ◌++◌, length, take, drop, Option, if◌then◌else◌, ⊤}
use Rattle.std.specs.List.{flat_map, AllByRecursion}
use Rattle.nx_code.specs.Reading.{newline}
use Rattle.nx_fec.specs.air_files.Channels.{channel_of, same_channel}
use Rattle.nx_fec.specs.declared.air_files.channel.Channel.{Channel}
use Rattle.nx_fec.specs.declared.air_files.channel.Channel.TheVariants.{Zero}
use Rattle.nx_fec.specs.air_files.AirFile.{Line, elements, spelling, IsLine, IsNoLine}
use Rattle.nx_fec.specs.declared.fault.LineFault.{LineFault}
use Rattle.nx_fec.specs.declared.fault.LineFault.TheVariants.{TooLong, LineLong, LineCut, BadLine}

-- the most bytes of a line before its end
abbrev pub max_line_bytes : ℕ
max_line_bytes = 514

-- a line with its end
abbrev pub line_bytes : Line → List ℕ
line_bytes line = spelling line ++ newline ∷ []

-- the file of these lines
abbrev pub file_of : List Line → List ℕ
file_of lines = flat_map line_bytes lines

-- the beginning of a line that isn't ended: no newline, and no more bytes than a line may have
pub record IsBeginning (rest : List ℕ) : Type 0 where
  pub none : AllByRecursion (λ byte. byte ≢ newline) rest
  pub short : length rest ≤ max_line_bytes

-- the bytes are these lines, and then the beginning of one more
pub record Splits (bytes : List ℕ) (lines : List Line) (rest : List ℕ) : Type 0 where
  pub whole : bytes ≡ file_of lines ++ rest
  pub each : AllByRecursion IsLine lines
  pub part : IsBeginning rest

-- No fault stands in the bytes, whatever comes after them: they are good lines, and maybe the
-- beginning of one more, within the limit.
pub record IsFaultless (limit : ℕ) (bytes : List ℕ) : Type 0 where
  pub lines : List Line
  pub rest : List ℕ
  pub splits : Splits bytes lines rest
  pub within : length bytes ≤ limit

-- After `lines` and the beginning `rest` of one more, which are `front` bytes, comes the fault: at
-- the next byte, the first of `more`, or at the end of the file. A byte past the limit isn't looked
-- at. The 515th byte of a line is too many. A newline ends a line, which has to be one of the air
-- file. At the end of the file no line is open.
abbrev pub IsCause : ℕ → ℕ → List Line → List ℕ → List ℕ → LineFault → Type 0
IsCause limit front lines rest [] (LineCut line) =
    (front ≤ limit) × (0 < length rest) × (line ≡ length lines + 1)
IsCause limit front lines rest (byte ∷ more) TooLong = front ≡ limit
IsCause limit front lines rest (byte ∷ more) (LineLong line) =
    (front < limit) × (byte ≢ newline) × (length rest ≡ max_line_bytes) × (line ≡ length lines + 1)
IsCause limit front lines rest (byte ∷ more) (BadLine line) =
    (front < limit) × (byte ≡ newline) × IsNoLine rest × (line ≡ length lines + 1)
IsCause limit front lines rest more why = ⊥

-- the bytes are good lines, and the beginning of one more, and what follows, of which this holds
pub record StopsAt (bytes : List ℕ) (holds : List Line → List ℕ → List ℕ → Type 0) : Type 0 where
  pub lines : List Line
  pub rest : List ℕ
  pub more : List ℕ
  pub whole : bytes ≡ (file_of lines ++ rest) ++ more
  pub each : AllByRecursion IsLine lines
  pub part : IsBeginning rest
  pub here : holds lines rest more

-- The file of these bytes has this fault. Good lines and the beginning of one more stand before it,
-- so it is the earliest; any bytes may come after it.
abbrev pub HasFault : ℕ → List ℕ → LineFault → Type 0
HasFault limit bytes why =
    StopsAt bytes (λ lines rest more.
    IsCause limit (length (file_of lines ++ rest)) lines rest more why)

-- the next line after these, which is one of an air file within the limit, is refused; lines count
-- from 1
pub record IsLineRefused (refuses : List Line → Line → Type 0) (limit : ℕ) (lines : List Line)
    (rest more : List ℕ) (number : ℕ) : Type 0 where
  pub line : Line
  pub after : List ℕ
  pub good : IsLine line
  pub spelled : rest ≡ spelling line
  pub ended : more ≡ newline ∷ after
  pub within : length (file_of lines ++ rest) < limit
  pub counted : number ≡ length lines + 1
  pub refused : refuses lines line

-- the fault stands at a byte, and not at the end of the file
abbrev pub IsAtByte : LineFault → Type 0
IsAtByte TooLong = ⊤
IsAtByte (LineLong line) = ⊤
IsAtByte (LineCut line) = ⊥
IsAtByte (BadLine line) = ⊤

-- the file of these bytes is these lines
pub record IsAirFile (limit : ℕ) (bytes : List ℕ) (lines : List Line) : Type 0 where
  pub whole : bytes ≡ file_of lines
  pub each : AllByRecursion IsLine lines
  pub within : length bytes ≤ limit

-- the elements of a line, which only a line of elements has
abbrev pub elements_of : Line → List Bool
elements_of (elements mark bits) = bits
elements_of _ = []

-- the elements of a line that belongs to this channel
abbrev pub elements_on : Channel → Line → List Bool
elements_on channel (elements mark bits) =
    if same_channel (channel_of mark) channel then bits else []
elements_on channel _ = []

-- the file of these bytes has these elements on channel 0, over all its lines
pub record IsBitFile (limit : ℕ) (bytes : List ℕ) (bits : List Bool) : Type 0 where
  pub lines : List Line
  pub file : IsAirFile limit bytes lines
  pub joined : bits ≡ flat_map (elements_on Zero) lines

-- what a scanner of lines holds: the open line, how many lines were ended, how many more bytes the
-- file may have, and the line that the last byte ended, if it did
pub record Scanning : Type 0 where
  pub part : List ℕ
  pub lines : ℕ
  pub allowance : ℕ
  pub latest : Option Line

-- a scanner stands so after these bytes, which ended these lines
pub record Scans (limit : ℕ) (scanner : Scanning) (bytes : List ℕ)
    (lines : List Line) : Type 0 where
  pub splits : Splits bytes lines scanner.part
  pub count : scanner.lines ≡ length lines
  pub allowance : scanner.allowance + length bytes ≡ limit

-- A scanner stands so after these bytes and so many of a piece, which ended no line; and the next
-- byte is the cause of this fault, whatever follows.
pub record StopsIn (limit : ℕ) (scanner : Scanning) (bytes piece : List ℕ) (lines : List Line)
    (why : LineFault) : Type 0 where
  pub count : ℕ
  pub within : count < length piece
  pub scans : Scans limit scanner (bytes ++ take count piece) lines
  pub cause : (more : List ℕ)
      → IsCause limit (length (bytes ++ take count piece)) lines scanner.part
      (drop count piece ++ more) why

-- the most bytes of an air file that is read as it comes: 2 ^ 28
abbrev pub air_limit : ℕ
air_limit = 268435456
