-- The positions of a message and of a list of messages (ITU-R M.540, form of a message; ITU-R
-- M.625, mode B, for phasing and the end). How many positions of phasing are sent is this
-- profile's.
use Rattle.std.specs.Prelude.{◌≡◌, ℕ, ◌-◌, ◌/◌, ◌%◌, List, [], ◌∷◌, ◌++◌, map, replicate, slice_index}
use Rattle.std.specs.List.{AllZip, flat_map}
use Rattle.nx_code.specs.Reading.{combination, shift_after_all}
use Rattle.nx_code.specs.Spelling.{Spells}
use Rattle.nx_code.specs.Table.{carriage_return, figure_shift, letter_shift, line_feed, space_combination}
use Rattle.nx_code.specs.declared.shifts.Shift.{Shift}
use Rattle.nx_code.specs.declared.shifts.Shift.TheVariants.{Letters, Figures}
use Rattle.nx_envelope.specs.Header.{start_marker, end_marker}
use Rattle.nx_code.specs.Reading.{capital_a, newline, space}
use Rattle.nx_envelope.specs.Identity.{identity_bytes}
use Rattle.nx_envelope.specs.Message.{text_of, MessageView}
use Rattle.nx_envelope.specs.declared.identity.Identity.{Identity}
use Rattle.nx_fec.specs.emissions.Emission.{SentPosition, phasing_position, traffic_position, end_position, end_positions}

-- the combinations whose figures are the digits 0 to 9
abbrev pub digit_combination : ℕ → ℕ
digit_combination digit = slice_index (16 ∷ 17 ∷ 23 ∷ 5 ∷ 18 ∷ 20 ∷ 25 ∷ 21 ∷ 9 ∷ 15 ∷ []) digit

-- the combination of a letter, by its byte: 1 for A to 26 for Z
abbrev pub letter_combination : ℕ → ℕ
letter_combination byte = byte - (capital_a - 1)

-- the combinations of letters
abbrev pub letter_combinations : List ℕ → List ℕ
letter_combinations letters = map letter_combination letters

-- The head of a message: letter shift, Z, C, Z, C, space, station, subject, figure shift, the two
-- digits of the number, carriage return and line feed.
unfoldable pub head : Identity → List ℕ
head identity =
    letter_shift ∷ (letter_combinations start_marker ++ (space_combination
    ∷ letter_combination identity.b1.byte ∷ letter_combination identity.b2.byte
    ∷ figure_shift ∷ digit_combination (identity.number / 10)
    ∷ digit_combination (identity.number % 10) ∷ carriage_return ∷ line_feed ∷ []))

-- what follows the letter shift, if there is one, at the end of a message: N, N, N, N, carriage
-- return, line feed, line feed
abbrev pub ending_in_letters : List ℕ
ending_in_letters =
    letter_combinations end_marker ++ (carriage_return ∷ line_feed ∷ line_feed ∷ [])

-- The end of a message, by the shift that its text leaves in force: a letter shift if that is
-- figures, and then the letters and the two lines.
unfoldable pub ending : Shift → List ℕ
ending Letters = ending_in_letters
ending Figures = letter_shift ∷ ending_in_letters

-- the combinations of a message: its head, its text spelled from the figure shift, its end
pub record IsSpelled (message : MessageView) (numbers : List ℕ) : Type 0 where
  pub text : List ℕ
  pub spells : Spells (text_of message.lines) Figures text
  pub whole : numbers ≡ head message.identity
      ++ (text ++ ending (shift_after_all (map combination text) Figures))

-- the combinations of each message of a list, in order
abbrev pub AreSpelled : List MessageView → List (List ℕ) → Type 0
AreSpelled = AllZip IsSpelled

-- how many positions of phasing come before the first message
abbrev pub first_phasing : ℕ
first_phasing = 72

-- how many positions of phasing come before each further message
abbrev pub further_phasing : ℕ
further_phasing = 36

-- positions of phasing, so many, and after them a message
abbrev pub phasing_and_message : ℕ → List ℕ → List SentPosition
phasing_and_message count numbers = replicate count phasing_position ++ map traffic_position numbers

-- the positions in which spelled messages are sent: phasing and the first message, before each
-- further message phasing again, and those of the end
unfoldable pub layout : List (List ℕ) → List SentPosition
layout [] = []
layout (numbers ∷ spellings) =
    phasing_and_message first_phasing numbers
    ++ (flat_map (phasing_and_message further_phasing) spellings
    ++ replicate end_positions end_position)

-- the positions of a list of messages
pub record IsBroadcast (messages : List MessageView) (positions : List SentPosition) : Type 0 where
  pub spellings : List (List ℕ)
  pub each : AreSpelled messages spellings
  pub whole : positions ≡ layout spellings

-- the header of a message in the text of a receiver
abbrev pub header : Identity → List ℕ
header identity = start_marker ++ (space ∷ identity_bytes identity)

-- what is printed of a message: its header and a newline, its text, NNNN and two newlines
abbrev pub printed_text : MessageView → List ℕ
printed_text message =
    header message.identity
    ++ newline ∷ (text_of message.lines ++ (end_marker ++ newline ∷ newline ∷ []))
