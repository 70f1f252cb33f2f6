-- Sendings: the messages of the emissions that are received in a list of bits, with any bits
-- between them (this profile).
use Rattle.std.specs.Prelude.{◌≡◌, ℕ, ◌+◌, ◌-◌, ◌*◌, Bool, List, [], ◌∷◌, ◌++◌, ◌≤◌, length, map, take, slice_get, Some}
use Rattle.std.specs.List.{AllByRecursion, AllZip, flat_map}
use Rattle.nx_code.specs.Table.{IsCombination}
use Rattle.nx_code.specs.Reading.{combination, shift_after_all, text}
use Rattle.nx_code.specs.Word.{last_element, word_elements}
use Rattle.nx_code.specs.declared.shifts.Shift.TheVariants.{Figures}
use Rattle.nx_fec.specs.emissions.Emission.{SentPosition, bits_of, rx_slot, traffic_position, end_positions}
use Rattle.nx_envelope.specs.Message.{AreLines, MessageView, text_of}
use Rattle.nx_station.specs.Broadcast.{IsSpelled, ending, first_phasing, further_phasing, head, layout}
use Rattle.nx_station.specs.reception.Path.{PassesPath, first_slot}

-- The combinations tell the message: its head, any that print its text from the figure shift, and
-- its end (ITU-R M.540).
pub record TellsMessage (message : MessageView) (numbers : List ℕ) : Type 0 where
  pub body : List ℕ
  pub each : AllByRecursion IsCombination body
  pub reads : text (map combination body) Figures ≡ text_of message.lines
  pub whole : numbers ≡ head message.identity
      ++ (body ++ ending (shift_after_all (map combination body) Figures))

-- an emission that is received: its messages, the combinations of each, and the words that are
-- heard from the first slot on
pub record ReceivedEmission : Type 0 where
  pub messages : List MessageView
  pub spellings : List (List ℕ)
  pub heard : List ℕ

-- the messages have good lines, these combinations tell them, and their emission passes the path as
-- these words
pub record IsReceived (emission : ReceivedEmission) : Type 0 where
  pub sound : AllByRecursion (λ (message : MessageView). AreLines message.lines) emission.messages
  pub told : AllZip TellsMessage emission.messages emission.spellings
  pub passes : PassesPath (layout emission.spellings) emission.heard

-- a part of a list of bits: a gap of any bits, or an emission that is received
pub data Part : Type 0 where
  gap : List Bool → Part
  received : ReceivedEmission → Part

-- the bits of a part: those of an emission are the bits of its words from the first slot on
abbrev pub part_bits : Part → List Bool
part_bits (gap bits) = bits
part_bits (received emission) = bits_of emission.heard

-- the bits are cut into gaps of any bits and received emissions
pub record IsCut (bits : List Bool) (parts : List Part) : Type 0 where
  pub whole : bits ≡ flat_map part_bits parts
  pub each : (before : List Part) (emission : ReceivedEmission) (after : List Part)
      → parts ≡ before ++ received emission ∷ after → IsReceived emission

-- How many positions are sent before the message that follows messages with these combinations: the
-- phasing before the first message, those messages themselves, and the phasing before each further
-- message.
abbrev pub positions_before : List (List ℕ) → ℕ
positions_before [] = first_phasing
positions_before (numbers ∷ more) = (length numbers + further_phasing) + positions_before more

-- the place of the second digit among the positions of a message
abbrev pub second_digit : ℕ
second_digit = 10

-- the slot in which the second digit of message i is sent as RX; messages count from 0
abbrev pub digit_slot : List (List ℕ) → ℕ → ℕ
digit_slot spellings i = rx_slot (positions_before (take i spellings) + second_digit)

-- The message is sent in a received emission that is one of these parts, as the message of this
-- index. Its header is at this place: the index, among all bits, of the last bit of the RX word of
-- its second digit.
pub record IsSentAt (parts : List Part) (sent : MessageView) (at : ℕ) : Type 0 where
  pub before : List Part
  pub emission : ReceivedEmission
  pub after : List Part
  pub among : parts ≡ before ++ received emission ∷ after
  pub index : ℕ
  pub message : slice_get emission.messages index ≡ Some sent
  pub place : at ≡ length (flat_map part_bits before)
      + word_elements * (digit_slot emission.spellings index - first_slot) + last_element

-- a message that is sent, and the place of its header
pub record Sending : Type 0 where
  pub message : MessageView
  pub place : ℕ

abbrev pub IsSending : List Part → Sending → Type 0
IsSending parts sending = IsSentAt parts sending.message sending.place

-- a message stands in the positions from a place on: its combinations are sent there, one after
-- another
pub record StandsFrom (positions : List SentPosition) (message : MessageView) (from : ℕ)
    : Type 0 where
  pub numbers : List ℕ
  pub spelled : IsSpelled message numbers
  pub front : List SentPosition
  pub back : List SentPosition
  pub whole : positions ≡ front ++ (map traffic_position numbers ++ back)
  pub place : length front ≡ from
  -- the positions of the end, at least, come after it
  pub ended : end_positions ≤ length back
