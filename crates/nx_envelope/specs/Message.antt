-- This profile: the lines and the text of a message (the text between the header and the end of
-- ITU-R M.540), and what is wrong with lines that make none.
use Rattle.std.specs.Prelude.{◌≡◌, ◌≢◌, ℕ, ◌+◌, ◌<◌, ◌≤◌, ◌⊎◌, List, [], ◌∷◌, ◌++◌, length, take, All, IsTrue, slice_index, slice_index_or}
use Rattle.std.specs.List.{flat_map}
use Rattle.nx_code.specs.Reading.{is_in_code}
use Rattle.nx_envelope.specs.Header.{HoldsWord, start_marker, end_marker}
use Rattle.nx_code.specs.Reading.{newline}
use Rattle.nx_envelope.specs.declared.message.MessageFault.{MessageFault}
use Rattle.nx_envelope.specs.declared.message.MessageFault.TheVariants.{LongLine, BadCharacter, Reserved, LongText, Memory}
use Rattle.nx_envelope.specs.declared.identity.Identity.{Identity}

-- a byte that a line may hold: it is in the code and no newline
abbrev pub IsLineByte : ℕ → Type 0
IsLineByte b = IsTrue (is_in_code b) × (b ≢ newline)

-- the most characters of a line, and of the text of a message
abbrev pub longest_line : ℕ
longest_line = 69

abbrev pub longest_text : ℕ
longest_text = 4096

-- one of the two markers stands in the line
abbrev pub HasReservedWord : List ℕ → Type 0
HasReservedWord line = HoldsWord start_marker line ⊎ HoldsWord end_marker line

-- a line of a message: at most 69 characters, each in the code, and no marker among them
pub record IsMessageLine (line : List ℕ) : Type 0 where
  pub fits : length line ≤ longest_line
  pub in_code : All IsLineByte line
  pub unreserved : ¬ HasReservedWord line

-- the text of a message: its lines, each followed by a newline
abbrev pub text_of : List (List ℕ) → List ℕ
text_of = flat_map (λ line. line ++ newline ∷ [])

-- the lines of a message: lines of which each is good, and together at most 4,096 characters of
-- text
pub record AreLines (lines : List (List ℕ)) : Type 0 where
  pub each : All IsMessageLine lines
  pub fits : length (text_of lines) ≤ longest_text

-- the byte at that place is the first that may not stand in a line
pub record IsFirstBadByte (line : List ℕ) (at : ℕ) : Type 0 where
  pub within : at < length line
  pub good_before : All IsLineByte (take at line)
  pub bad : ¬ IsLineByte (slice_index line at)

-- the first fault of one line, the n-th: too long, else a byte that may not stand there, else a
-- marker
abbrev pub IsLineFault : ℕ → List ℕ → MessageFault → Type 0
IsLineFault n line (LongLine m) = (m ≡ n) × (longest_line < length line)
IsLineFault n line (BadCharacter m at) =
    (m ≡ n) × (length line ≤ longest_line) × IsFirstBadByte line at
IsLineFault n line (Reserved m) =
    (m ≡ n) × (length line ≤ longest_line) × All IsLineByte line × HasReservedWord line
IsLineFault n line LongText = ⊥
IsLineFault n line (Memory e) = ⊥

-- the fault is that of the least line that has one
pub record IsFirstLineFault (lines : List (List ℕ)) (fault : MessageFault) : Type 0 where
  pub at : ℕ
  pub within : at < length lines
  pub good_before : All IsMessageLine (take at lines)
  pub here : IsLineFault (at + 1) (slice_index_or lines at []) fault

-- the fault for which lines are refused: the first of a line, after all lines the length of the
-- text, and want of memory only where the lines are those of a message
abbrev pub IsMessageFault : List (List ℕ) → MessageFault → Type 0
IsMessageFault lines LongText = All IsMessageLine lines × (longest_text < length (text_of lines))
IsMessageFault lines (Memory e) = AreLines lines
IsMessageFault lines (LongLine m) = IsFirstLineFault lines (LongLine m)
IsMessageFault lines (BadCharacter m at) = IsFirstLineFault lines (BadCharacter m at)
IsMessageFault lines (Reserved m) = IsFirstLineFault lines (Reserved m)

-- an identity and a list of lines
pub record MessageView : Type 0 where
  pub identity : Identity
  pub lines : List (List ℕ)
