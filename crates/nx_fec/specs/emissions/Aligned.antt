-- The text of words that stand in their slots from slot 0 on (ITU-R M.625, collective mode B).
use Rattle.std.specs.Prelude.{◌≡◌, ℕ, ◌+◌, ◌*◌, ◌/◌, ◌%◌, Bool, List, length, map, slice_index}
use Rattle.std.specs.List.{range_with_len}
use Rattle.nx_code.specs.Word.{word_elements, word_from}
use Rattle.nx_code.specs.Reading.{Reception, text}
use Rattle.nx_code.specs.declared.shifts.Shift.TheVariants.{Letters}
use Rattle.nx_fec.specs.declared.emissions.aligned.AlignedFault.{AlignedFault}
use Rattle.nx_fec.specs.declared.emissions.aligned.AlignedFault.TheVariants.{Ragged, Memory}
use Rattle.nx_fec.specs.emissions.Pairing.{Counted, counts_as, pairing, five_before}

-- word k of the elements: those from 7k to 7k+6
unfoldable pub word_in : List Bool → ℕ → ℕ
word_in bits slot = word_from bits (word_elements * slot)

-- the whole words, in order
unfoldable pub words_of : List Bool → List ℕ
words_of bits = map (word_in bits) (range_with_len 0 (length bits / word_elements))

-- What the first DX words of a lock count as, so many of them, oldest first. The first of them is
-- word 0, or word 1 of a lock that begins with an RX word. RX word k comes after those before it:
-- `k ≡ 2 * count + first - 1`.
unfoldable pub dx_words : List ℕ → ℕ → ℕ → List Counted
dx_words words first count =
    map (λ i. counts_as (slice_index words (2 * i + first))) (range_with_len 0 count)

-- what is taken at an RX slot: its word is paired with the one five slots before it
unfoldable pub taken_at : List ℕ → ℕ → Reception
taken_at words slot =
    pairing (five_before (slice_index words) slot) (counts_as (slice_index words slot))

-- what is taken at the RX slots 1, 3, 5 and so on, in order
unfoldable pub receptions : List ℕ → List Reception
receptions words = map (λ i. taken_at words (2 * i + 1)) (range_with_len 0 (length words / 2))

-- the text of the words, from letters
abbrev pub aligned_text : List ℕ → List ℕ
aligned_text words = text (receptions words) Letters

-- the elements are whole words
abbrev pub AreWhole : List Bool → Type 0
AreWhole bits = length bits % word_elements ≡ 0

-- elements are refused for their number where they are no whole words
abbrev pub ExplainsAligned : List Bool → AlignedFault → Type 0
ExplainsAligned bits (Ragged given) = (given ≡ length bits) × ¬ AreWhole bits
ExplainsAligned bits (Memory _) = AreWhole bits
