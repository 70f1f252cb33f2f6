-- A worked emission, of the message EA01 with the one line TEST (its words are those of ITU-R
-- M.625's mode B for the positions of this profile's emissions), as it may arrive.
use Rattle.std.specs.Prelude.{ℕ, ◌+◌, ◌-◌, ◌%◌, ◌==◌, ◌||◌, if◌then◌else◌, Bool, List, [], ◌∷◌, ◌++◌, codes, length}
use Rattle.std.proofs.Common.{lit≤}
use Rattle.nx_envelope.specs.Message.{MessageView}
use Rattle.nx_envelope.specs.declared.identity.Identity.{Identity}
use Rattle.nx_fec.specs.emissions.Emission.{dx_slot, is_dx_slot, rx_slot}
use Rattle.nx_station.specs.reception.Path.{message_slot, phasing_words}
use Rattle.nx_station.specs.reception.Sendings.{Part, ReceivedEmission, Sending, gap, received}

-- station E, subject A, number 01
abbrev pub ea01 : Identity
ea01 = record {
  b1 = record { byte = 69; in_range = (lit≤ tt, lit≤ tt) };
  b2 = record { byte = 65; in_range = (lit≤ tt, lit≤ tt) };
  number = 1;
  two_digits = lit≤ tt;
}

-- the message
abbrev pub example_message : MessageView
example_message = record { identity = ea01; lines = codes "TEST" ∷ [] }

-- its combinations: LTRS Z C Z C SPACE E A FIGS 0 1 CR LF, LTRS T E S T CR LF, N N N N CR LF LF
unfoldable pub example_numbers : List ℕ
example_numbers =
    29 ∷ 26 ∷ 3 ∷ 26 ∷ 3 ∷ 31 ∷ 5 ∷ 1 ∷ 30 ∷ 16 ∷ 17 ∷ 27 ∷ 28 ∷
    29 ∷ 20 ∷ 5 ∷ 19 ∷ 20 ∷ 27 ∷ 28 ∷ 14 ∷ 14 ∷ 14 ∷ 14 ∷ 27 ∷ 28 ∷ 28 ∷ []

-- the words of its emission from slot 144 on as they are sent, a DX word and an RX word in each
-- pair
unfoldable pub example_words : List ℕ
example_words =
    0x5A ∷ 0x0F ∷ 0x63 ∷ 0x0F ∷ 0x1D ∷ 0x5A ∷ 0x63 ∷ 0x63 ∷ 0x1D ∷ 0x1D ∷ 0x5C ∷ 0x63
    ∷ 0x56 ∷ 0x1D ∷ 0x47 ∷ 0x5C ∷ 0x36 ∷ 0x56 ∷ 0x2D ∷ 0x47 ∷ 0x2E ∷ 0x36 ∷ 0x78 ∷ 0x2D
    ∷ 0x6C ∷ 0x2E ∷ 0x5A ∷ 0x78 ∷ 0x74 ∷ 0x6C ∷ 0x56 ∷ 0x5A ∷ 0x4B ∷ 0x74 ∷ 0x74 ∷ 0x56
    ∷ 0x78 ∷ 0x4B ∷ 0x6C ∷ 0x74 ∷ 0x59 ∷ 0x78 ∷ 0x59 ∷ 0x6C ∷ 0x59 ∷ 0x59 ∷ 0x59 ∷ 0x59
    ∷ 0x78 ∷ 0x59 ∷ 0x6C ∷ 0x59 ∷ 0x6C ∷ 0x78 ∷ 0x0F ∷ 0x6C ∷ 0x0F ∷ 0x6C ∷ 0x0F ∷ []

-- a word whose first element arrives inverted
abbrev pub first_inverted : ℕ → ℕ
first_inverted word = if word % 2 == 1 then word - 1 else word + 1

-- words from this slot on, of which those in the slots that are hit arrive with their first element
-- inverted
unfoldable pub damaged_in : (ℕ → Bool) → ℕ → List ℕ → List ℕ
damaged_in is_hit slot [] = []
damaged_in is_hit slot (word ∷ words) =
    (if is_hit slot then first_inverted word else word) ∷ damaged_in is_hit (slot + 1) words

-- what is heard from slot 96 on where the words in the slots that are hit are damaged, from slot
-- 144 on
abbrev pub heard_with : (ℕ → Bool) → List ℕ
heard_with is_hit = phasing_words 24 ++ damaged_in is_hit message_slot example_words

-- one word of each position is lost: the DX words
unfoldable pub heard_half : List ℕ
heard_half = heard_with is_dx_slot

-- both words of position 75 are lost
unfoldable pub heard_without_75 : List ℕ
heard_without_75 = heard_with (λ slot. slot == dx_slot 75 || slot == rx_slot 75)

-- the emission, received with one word of each position
abbrev pub example_emission : ReceivedEmission
example_emission = record {
  messages = example_message ∷ [];
  spellings = example_numbers ∷ [];
  heard = heard_half;
}

-- bits in which it is received, between gaps of any bits: what arrives of the slots before slot 96
-- ends the first gap
abbrev pub example_parts : List Bool → List Bool → List Part
example_parts before after = gap before ∷ received example_emission ∷ gap after ∷ []

-- the sending: its header ends in slot 169
abbrev pub example_sending : List Bool → Sending
example_sending before = record { message = example_message; place = length before + 517 }
