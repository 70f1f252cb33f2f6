-- The path of an emission: in which words it may be received (this profile). Words are those of
-- slots; what arrives of the slots before the first slot belongs to the gap before the emission.
use Rattle.std.specs.Prelude.{◌≡◌, ◌≢◌, ℕ, zero, suc, ◌+◌, ◌-◌, ◌<◌, ◌≤◌, ◌⊎◌, List, [], ◌∷◌, length, slice_index}
use Rattle.nx_code.specs.Table.{phasing_1, phasing_2}
use Rattle.nx_code.specs.Word.{HasWrongWeight}
use Rattle.nx_station.specs.Broadcast.{first_phasing}
use Rattle.nx_fec.specs.emissions.Emission.{AreWords, SentPosition, dx_slot, end_position, position_at, rx_slot, slots_of, word_sent}

-- how many positions of the phasing before the first message are received, the last ones
abbrev pub phasing_received : ℕ
phasing_received = 24

-- the first slot whose word is received: of the phasing before the first message the last 24
-- positions are
abbrev pub first_slot : ℕ
first_slot = dx_slot (first_phasing - phasing_received)

-- the slot of the first word of the first message
abbrev pub message_slot : ℕ
message_slot = dx_slot first_phasing

-- how many successive words are looked at together, and how many of them may be wrong
abbrev pub word_span : ℕ
word_span = 64

abbrev pub most_wrong : ℕ
most_wrong = 35

-- the word that is heard in a slot, where these are heard from the first slot on
abbrev pub heard_in : List ℕ → ℕ → ℕ
heard_in heard slot = slice_index heard (slot - first_slot)

-- the word of the slot is heard as it was sent, where these are heard from the first slot on
abbrev pub IsAsSent : List SentPosition → List ℕ → ℕ → Type 0
IsAsSent positions heard slot = heard_in heard slot ≡ word_sent positions slot

-- The emission of these positions passes the path, and what is heard of it are these words, each
-- by its number. They are the words of all slots from the first slot on to the last. In the slots
-- before the first message each word is heard as it was sent. In each later slot it is heard as it
-- was sent, or a word of the wrong weight is heard in its place. Of each position behind the first
-- phasing, but for those of the end, one word at least is heard as it was sent: that of its DX slot
-- or that of its RX slot.
pub record PassesPath (positions : List SentPosition) (heard : List ℕ) : Type 0 where
  pub words : AreWords heard
  pub whole : first_slot + length heard ≡ slots_of positions
  pub phasing : (slot : ℕ) → first_slot ≤ slot → slot < message_slot
      → IsAsSent positions heard slot
  pub later : (slot : ℕ) → message_slot ≤ slot → slot < slots_of positions
      → IsAsSent positions heard slot ⊎ HasWrongWeight (heard_in heard slot)
  pub one_of_two : (i : ℕ) → first_phasing ≤ i → i < length positions
      → position_at positions i ≢ end_position
      → IsAsSent positions heard (dx_slot i) ⊎ IsAsSent positions heard (rx_slot i)

-- P2 P1 as words, so many times
unfoldable pub phasing_words : ℕ → List ℕ
phasing_words zero = []
phasing_words (suc n) = phasing_2 ∷ phasing_1 ∷ phasing_words n
