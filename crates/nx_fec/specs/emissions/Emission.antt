-- Emission (ITU-R M.625, collective mode B: each position is sent in two words, and the RX word
-- comes five slots after the DX word, so that four words lie between).
use Rattle.std.specs.Prelude.{◌≡◌, ℕ, ◌+◌, ◌-◌, ◌*◌, ◌/◌, ◌%◌, ◌<◌, ◌==◌, nat_lt, if◌then◌else◌, Bool, List, ◌++◌, length, map, replicate, slice_index, slice_index_or, EachIndex}
use Rattle.std.specs.List.{flat_map, range_with_len}
use Rattle.nx_code.specs.Word.{elements, word_numbers}
use Rattle.nx_code.specs.Table.{traffic_word, phasing_1, phasing_2, IsCombination}
use Rattle.nx_code.specs.Reading.{Reception, combination, idle}
use Rattle.nx_fec.specs.declared.emissions.positions.Position.{Position}
use Rattle.nx_fec.specs.declared.emissions.positions.Position.TheVariants.{Phasing, Traffic, End}

-- a position that is sent: phasing, a traffic combination by its number, or the end of the emission
pub data SentPosition : Type 0 where
  phasing_position : SentPosition
  traffic_position : ℕ → SentPosition
  end_position : SentPosition

-- the position that the code sends
abbrev pub sent_position : Position → SentPosition
sent_position Phasing = phasing_position
sent_position (Traffic comb) = traffic_position comb.number
sent_position End = end_position

-- the word that is sent first, in a DX slot
abbrev pub dx_word : SentPosition → ℕ
dx_word phasing_position = phasing_2
dx_word (traffic_position number) = traffic_word number
dx_word end_position = phasing_1

-- the word that is sent again, in an RX slot
abbrev pub rx_word : SentPosition → ℕ
rx_word (traffic_position number) = traffic_word number
rx_word _ = phasing_1

-- the position of an index
abbrev pub position_at : List SentPosition → ℕ → SentPosition
position_at positions i = slice_index_or positions i end_position

-- how many slots after its DX word the RX word of a position comes (M.625)
abbrev pub rx_delay : ℕ
rx_delay = 5

-- the slot of the DX word of a position, by its index (M.625)
abbrev pub dx_slot : ℕ → ℕ
dx_slot i = 2 * i

-- the slot of the RX word of a position, by its index (M.625)
abbrev pub rx_slot : ℕ → ℕ
rx_slot i = dx_slot i + rx_delay

-- whether a slot is one of a DX word, and not of an RX word: those with an even number are (M.625)
abbrev pub is_dx_slot : ℕ → Bool
is_dx_slot slot = slot % 2 == 0

-- how many slots positions have: P positions have 2P-1, and none have none (M.625)
abbrev pub slots_of : List SentPosition → ℕ
slots_of positions = 2 * length positions - 1

-- Each position has its DX word in its DX slot, and its RX word in its RX slot, where the emission
-- has that; slots 1 and 3 hold P1.
pub record IsEmission (positions : List SentPosition) (sent : List ℕ) : Type 0 where
  pub slots : length sent ≡ slots_of positions
  pub dx : (i : ℕ) → i < length positions
      → slice_index sent (dx_slot i) ≡ dx_word (position_at positions i)
  pub rx : (i : ℕ) → rx_slot i < slots_of positions
      → slice_index sent (rx_slot i) ≡ rx_word (position_at positions i)
  pub first_rx : 1 < length sent → slice_index sent 1 ≡ phasing_1
  pub second_rx : 3 < length sent → slice_index sent 3 ≡ phasing_1

-- the word that is sent in a slot
unfoldable pub word_sent : List SentPosition → ℕ → ℕ
word_sent positions slot =
    if is_dx_slot slot then dx_word (position_at positions (slot / 2))
    else (if nat_lt slot rx_delay then phasing_1
    else rx_word (position_at positions ((slot - rx_delay) / 2)))

-- the words of an emission, in the order of their slots
unfoldable pub emission : List SentPosition → List ℕ
emission positions = map (word_sent positions) (range_with_len 0 (slots_of positions))

-- the bits of words: their elements in order
unfoldable pub bits_of : List ℕ → List Bool
bits_of sent = flat_map elements sent

-- these are numbers of words
abbrev pub AreWords : List ℕ → Type 0
AreWords sent = EachIndex sent (λ slot. slice_index sent slot < word_numbers)

-- these are numbers of combinations
abbrev pub AreCombinations : List ℕ → Type 0
AreCombinations numbers =
    EachIndex numbers (λ i. IsCombination (slice_index numbers i))

-- a traffic position has a combination
abbrev pub IsInCode : SentPosition → Type 0
IsInCode phasing_position = Unit {0}
IsInCode (traffic_position number) = IsCombination number
IsInCode end_position = Unit {0}

-- each traffic position of these has a combination
abbrev pub AreInCode : List SentPosition → Type 0
AreInCode positions = EachIndex positions (λ i. IsInCode (position_at positions i))

-- what is taken of a position whose two words arrive
abbrev pub reception : SentPosition → Reception
reception phasing_position = idle
reception (traffic_position number) = combination number
reception end_position = idle

-- how many positions of phasing stand before combinations that are sent alone (this profile)
abbrev pub framing_positions : ℕ
framing_positions = 4

-- how many positions of the end an emission ends with (this profile)
abbrev pub end_positions : ℕ
end_positions = 3

-- the positions by which combinations are sent alone: phasing, the combinations, and the end
unfoldable pub framed_positions : List ℕ → List SentPosition
framed_positions numbers =
    replicate framing_positions phasing_position ++ map traffic_position numbers
    ++ replicate end_positions end_position
