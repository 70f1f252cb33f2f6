-- What strict reading finds in elements: the messages of an emission, or the first of its faults
-- (ITU-R M.625, mode B, for words and pairs; ITU-R M.540, form of a message). That all else is
-- refused, and in which order, is this profile's.
use Rattle.std.specs.Prelude.{◌≡◌, ℕ, ◌<◌, Bool, List, length, slice_index, ⊤}
use Rattle.nx_code.specs.Word.{HasWrongWeight}
use Rattle.nx_envelope.specs.Message.{MessageView}
use Rattle.nx_fec.specs.emissions.Aligned.{AreWhole, words_of}
use Rattle.nx_fec.specs.emissions.Emission.{SentPosition, IsInCode, bits_of, dx_slot, dx_word, emission, rx_slot, rx_word}
use Rattle.nx_station.specs.Broadcast.{IsBroadcast}
use Rattle.nx_station.specs.Sendable.{IsSendable}
use Rattle.nx_station.specs.declared.fault.EmissionFault.{EmissionFault}
use Rattle.nx_station.specs.declared.fault.EmissionFault.TheVariants.{Ragged, WrongWord, Unpaired, BadEnvelope, Memory}

-- the messages may be sent, and these are the elements of their emission
pub record IsEmissionOf (messages : List MessageView) (bits : List Bool) : Type 0 where
  pub sendable : IsSendable messages
  pub positions : List SentPosition
  pub broadcast : IsBroadcast messages positions
  pub whole : bits ≡ bits_of (emission positions)

-- it holds of this number, and of no smaller one
pub record IsLeast (Holds : ℕ → Type 0) (n : ℕ) : Type 0 where
  pub here : Holds n
  pub none_before : (k : ℕ) → k < n → ¬ Holds k

-- the word of this slot has the wrong weight
pub record IsWrongWord (words : List ℕ) (slot : ℕ) : Type 0 where
  pub within : slot < length words
  pub wrong : HasWrongWeight (slice_index words slot)

-- two words are those of a position that is sent: one traffic word twice, P2 and then P1, or P1
-- twice
pub record IsPair (dx rx : ℕ) : Type 0 where
  pub position : SentPosition
  pub in_code : IsInCode position
  pub first : dx ≡ dx_word position
  pub second : rx ≡ rx_word position

-- the two words of this position are there and are no pair
pub record IsUnpaired (words : List ℕ) (position : ℕ) : Type 0 where
  pub within : rx_slot position < length words
  pub no_pair : ¬ IsPair (slice_index words (dx_slot position))
      (slice_index words (rx_slot position))

-- no word has the wrong weight
abbrev pub AreRight : List Bool → Type 0
AreRight bits = (slot : ℕ) → ¬ IsWrongWord (words_of bits) slot

-- no position is unpaired
abbrev pub ArePaired : List Bool → Type 0
ArePaired bits = (position : ℕ) → ¬ IsUnpaired (words_of bits) position

-- the elements are the emission of no messages that may be sent
abbrev pub AreOfNone : List Bool → Type 0
AreOfNone bits = (messages : List MessageView) → ¬ IsEmissionOf messages bits

-- What a fault of strict reading says of the elements. Each one says that those before it don't
-- hold: no whole words; then the least slot of a wrong word; then the least unpaired position; then
-- all else. Memory is taken after these.
abbrev pub ExplainsEmission : List Bool → EmissionFault → Type 0
ExplainsEmission bits (Ragged given) = (given ≡ length bits) × ¬ AreWhole bits
ExplainsEmission bits (WrongWord slot) = AreWhole bits × IsLeast (IsWrongWord (words_of bits)) slot
ExplainsEmission bits (Unpaired position) =
    AreWhole bits × AreRight bits × IsLeast (IsUnpaired (words_of bits)) position
ExplainsEmission bits BadEnvelope = AreWhole bits × AreRight bits × ArePaired bits × AreOfNone bits
ExplainsEmission bits (Memory error) = AreWhole bits × AreRight bits × ArePaired bits

-- want of memory
abbrev pub IsMemory : EmissionFault → Type 0
IsMemory (Memory error) = ⊤
IsMemory _ = ⊥
