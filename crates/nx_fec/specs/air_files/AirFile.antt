-- The lines of an air file (this profile): what they say, and how they are spelled.
use Rattle.std.specs.Prelude.{◌≡◌, ◌≢◌, ℕ, ◌+◌, ◌-◌, ◌^◌, ◌<◌, ◌≤◌, Bool, true, false, List, [], ◌∷◌, ◌++◌, length, map, codes, Option, Some, None}
use Rattle.std.specs.Fmt.{decimal}
use Rattle.nx_code.specs.Reading.{IsCapital, digit_one, digit_zero, space}
use Rattle.nx_fec.specs.air_files.Channels.{channel_number, channel_of}
use Rattle.nx_fec.specs.declared.air_files.channel.Channel.{Channel}
use Rattle.nx_fec.specs.declared.air_files.lines.AirLine.{AirLine}
use Rattle.nx_fec.specs.declared.air_files.lines.AirLine.TheVariants.{Moment, Bits, RefuseStation, AcceptStation, RefuseSubject, AcceptSubject}

-- What a line says: the moment from here on, elements in the order of sending, or a command of
-- selection for a letter. The last five name their channel, or none: `B 1` and `B0 1` mean the
-- same.
pub data Line : Type 0 where
  moment : ℕ → Line
  elements : Option Channel → List Bool → Line
  refuse_station : Option Channel → ℕ → Line
  accept_station : Option Channel → ℕ → Line
  refuse_subject : Option Channel → ℕ → Line
  accept_subject : Option Channel → ℕ → Line

-- an element is written as the digit 1 where it is B, and as 0 where it is Y
abbrev pub element_digit : Bool → ℕ
element_digit true = digit_one
element_digit false = digit_zero

-- a channel is named by its digit
abbrev pub mark_bytes : Option Channel → List ℕ
mark_bytes None = []
mark_bytes (Some channel) = (digit_zero + channel_number channel) ∷ []

-- the letters that begin a line, the digit of its channel if it names one, a space, and what
-- follows
abbrev pub with_mark : List ℕ → Option Channel → List ℕ → List ℕ
with_mark word mark rest = word ++ (mark_bytes mark ++ (space ∷ rest))

-- the bytes of a line, without its newline
abbrev pub spelling : Line → List ℕ
spelling (moment n) = codes "T " ++ decimal n
spelling (elements mark bits) = with_mark (codes "B") mark (map element_digit bits)
spelling (refuse_station mark letter) = with_mark (codes "RS") mark (letter ∷ [])
spelling (accept_station mark letter) = with_mark (codes "AS") mark (letter ∷ [])
spelling (refuse_subject mark letter) = with_mark (codes "RJ") mark (letter ∷ [])
spelling (accept_subject mark letter) = with_mark (codes "AJ") mark (letter ∷ [])

-- the most digits of a moment
abbrev pub max_moment_digits : ℕ
max_moment_digits = 11

-- the most elements of a line that names no channel
abbrev pub max_line_elements : ℕ
max_line_elements = 512

-- A moment has no more digits than it may, and a letter is one of A to Z. A line of elements has at
-- least one, and no more than it may, one less where it names its channel.
abbrev pub IsLine : Line → Type 0
IsLine (moment n) = n < 10 ^ max_moment_digits
IsLine (elements mark bits) =
    (0 < length bits) × (length bits ≤ max_line_elements - length (mark_bytes mark))
IsLine (refuse_station mark letter) = IsCapital letter
IsLine (accept_station mark letter) = IsCapital letter
IsLine (refuse_subject mark letter) = IsCapital letter
IsLine (accept_subject mark letter) = IsCapital letter

-- what a line means to the code: of its channel only which it is
abbrev pub meaning : Line → AirLine
meaning (moment n) = Moment n
meaning (elements mark bits) = Bits (channel_of mark) (record { items = bits })
meaning (refuse_station mark letter) = RefuseStation (channel_of mark) letter
meaning (accept_station mark letter) = AcceptStation (channel_of mark) letter
meaning (refuse_subject mark letter) = RefuseSubject (channel_of mark) letter
meaning (accept_subject mark letter) = AcceptSubject (channel_of mark) letter

-- these bytes are those of a line that means this
pub record Means (bytes : List ℕ) (found : AirLine) : Type 0 where
  pub line : Line
  pub good : IsLine line
  pub spelled : bytes ≡ spelling line
  pub meant : found ≡ meaning line

-- the bytes are no line's
abbrev pub IsNoLine : List ℕ → Type 0
IsNoLine bytes = (line : Line) → IsLine line → bytes ≢ spelling line
