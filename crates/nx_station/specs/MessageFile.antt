-- The lines of a message file, and its first fault (this profile).
use Rattle.std.specs.Prelude.{◌≡◌, ◌≢◌, ℕ, ◌+◌, ◌≤◌, List, [], ◌∷◌, ◌++◌, codes, length, Option, Some, None, ⊤}
use Rattle.std.specs.List.{flat_map, AllByRecursion}
use Rattle.nx_envelope.specs.Identity.{two_digits}
use Rattle.nx_code.specs.Reading.{IsCapital, newline}
use Rattle.nx_envelope.specs.Message.{AreLines, IsMessageFault, text_of, MessageView}
use Rattle.nx_envelope.specs.declared.message.MessageFault.{MessageFault}
use Rattle.nx_envelope.specs.declared.message.MessageFault.TheVariants as message

-- what a message file says of a message; the station comes from elsewhere
pub record FileMessage : Type 0 where
  pub subject : ℕ
  pub number : ℕ
  pub lines : List (List ℕ)

-- what a file says of this message
abbrev pub file_message_of : MessageView → FileMessage
file_message_of message = record {
  subject = message.identity.b2.byte;
  number = message.identity.number;
  lines = message.lines;
}

-- the first line of a message, without its end: `#`, the subject, two digits
abbrev pub heading : ℕ → ℕ → List ℕ
heading subject number = codes "#" ++ (subject ∷ two_digits number)

-- the line that ends a message, without its end: `;`
abbrev pub closing : List ℕ
closing = codes ";"

-- the lines of a message up to the last line of its text
abbrev pub opening : FileMessage → List ℕ
opening entry = heading entry.subject entry.number ++ newline ∷ text_of entry.lines

-- all lines of a message
abbrev pub file_message_bytes : FileMessage → List ℕ
file_message_bytes entry = opening entry ++ (closing ++ newline ∷ [])

-- the file of these messages
abbrev pub message_file_bytes : List FileMessage → List ℕ
message_file_bytes entries = flat_map file_message_bytes entries

-- a subject is a letter, and a number has two digits
pub record IsNamed (subject number : ℕ) : Type 0 where
  pub letter : IsCapital subject
  pub two_digits : number ≤ 99

-- a message: its lines are those of a message
pub record IsFileMessage (entry : FileMessage) : Type 0 where
  pub named : IsNamed entry.subject entry.number
  pub lines : AreLines entry.lines

-- the file of these bytes is these messages
pub record IsMessageFile (bytes : List ℕ) (entries : List FileMessage) : Type 0 where
  pub whole : bytes ≡ message_file_bytes entries
  pub each : AllByRecursion IsFileMessage entries

-- bytes without a newline
abbrev pub IsOneLine : List ℕ → Type 0
IsOneLine line = AllByRecursion (λ byte. byte ≢ newline) line

-- a line inside a message that doesn't end it
pub record IsInside (line : List ℕ) : Type 0 where
  pub one_line : IsOneLine line
  pub goes_on : line ≢ closing

-- the beginning of a message that isn't ended: its lines are any that don't end it
pub record IsBegun (entry : FileMessage) : Type 0 where
  pub named : IsNamed entry.subject entry.number
  pub lines : AllByRecursion IsInside entry.lines

-- the bytes of the beginning of a message, if there is one, and how many lines they are
abbrev pub bytes_begun : Option FileMessage → List ℕ
bytes_begun None = []
bytes_begun (Some entry) = opening entry

abbrev pub lines_begun : Option FileMessage → ℕ
lines_begun None = 0
lines_begun (Some entry) = 1 + length entry.lines

abbrev pub IsBegunIf : Option FileMessage → Type 0
IsBegunIf None = Unit {0}
IsBegunIf (Some entry) = IsBegun entry

-- outside a message, a line that begins none
pub record IsBadLine (bytes : List ℕ) : Type 0 where
  pub line : List ℕ
  pub more : List ℕ
  pub whole : bytes ≡ line ++ newline ∷ more
  pub one_line : IsOneLine line
  pub begins_none : (subject number : ℕ) → IsNamed subject number → line ≢ heading subject number

-- a message that is ended, and whose lines have a fault
pub record IsBadText (bytes : List ℕ) (fault : MessageFault) : Type 0 where
  pub entry : FileMessage
  pub more : List ℕ
  pub whole : bytes ≡ file_message_bytes entry ++ more
  pub begun : IsBegun entry
  pub faulty : IsMessageFault entry.lines fault

-- the file ends inside a line, which stands behind so many others
pub record EndsInLine (bytes : List ℕ) (behind : ℕ) : Type 0 where
  pub before : Option FileMessage
  pub line : List ℕ
  pub whole : bytes ≡ bytes_begun before ++ line
  pub sound : IsBegunIf before
  pub one_line : IsOneLine line
  pub some : line ≢ []
  pub counted : behind ≡ lines_begun before

-- the file ends inside a message
pub record IsOpen (bytes : List ℕ) : Type 0 where
  pub entry : FileMessage
  pub whole : bytes ≡ opening entry
  pub begun : IsBegun entry

-- a fault of the lines of a message, and not of memory
abbrev pub IsOfLines : MessageFault → Type 0
IsOfLines (message.LongLine line) = ⊤
IsOfLines (message.BadCharacter line at) = ⊤
IsOfLines (message.Reserved line) = ⊤
IsOfLines message.LongText = ⊤
IsOfLines (message.Memory error) = ⊥

-- The fault of a message file, with the number of a line, from 1. It is a line that begins no
-- message; or a message, by its first line, whose lines have this fault. Or it is the line in which
-- the file ends; or the message, by its first line, in which it ends.
pub data FileFault : Type 0 where
  bad_line : ℕ → FileFault
  bad_text : ℕ → MessageFault → FileFault
  line_cut : ℕ → FileFault
  not_ended : ℕ → FileFault

-- The fault stands in the first message of these bytes, or in the first line where that begins
-- none. So many lines stand before them in the file, and lines count from 1.
abbrev pub IsFirstFault : ℕ → List ℕ → FileFault → Type 0
IsFirstFault before bytes (bad_line line) = (line ≡ before + 1) × IsBadLine bytes
IsFirstFault before bytes (bad_text line fault) =
    (line ≡ before + 1) × IsBadText bytes fault × IsOfLines fault
IsFirstFault before bytes (line_cut line) =
    (behind : ℕ) × (line ≡ before + behind + 1) × EndsInLine bytes behind
IsFirstFault before bytes (not_ended line) = (line ≡ before + 1) × IsOpen bytes

-- how many lines messages have in a file
abbrev pub lines_of : List FileMessage → ℕ
lines_of [] = 0
lines_of (entry ∷ entries) = (2 + length entry.lines) + lines_of entries

-- The file of these bytes has this fault. Good messages stand before it, so it is the first.
pub record HasFirstFault (bytes : List ℕ) (why : FileFault) : Type 0 where
  pub entries : List FileMessage
  pub rest : List ℕ
  pub whole : bytes ≡ message_file_bytes entries ++ rest
  pub each : AllByRecursion IsFileMessage entries
  pub first : IsFirstFault (lines_of entries) rest why
