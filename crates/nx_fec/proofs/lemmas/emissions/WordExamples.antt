-- The definitions at worked examples.
use Rattle.std.proofs.Common.{◌≡◌, ℕ, refl, List, [], ◌∷◌, codes}
use Rattle.nx_code.specs.Word.{elements, elements_from, number_of}
use Rattle.nx_code.specs.Table.{table, words, place_of, row_of, traffic_word}
use Rattle.nx_code.specs.Reading.{combination, idle, lost, character_of}
use Rattle.nx_fec.specs.emissions.Pairing.{counts_as, pairing}
use Rattle.nx_fec.specs.emissions.Aligned.{word_in, words_of, taken_at, receptions, aligned_text}
use Rattle.nx_fec.specs.emissions.Emission.{word_sent, emission, bits_of, framed_positions}

-- A and A, A and a wrong weight, a wrong weight and A are A
pub same-taken : pairing (counts_as 0x47) (counts_as 0x47) ≡ combination 1
unfolding counts_as place_of words table
same-taken = refl

pub dx-taken : pairing (counts_as 0x47) (counts_as 0x46) ≡ combination 1
unfolding counts_as place_of words table
dx-taken = refl

pub rx-taken : pairing (counts_as 0x46) (counts_as 0x47) ≡ combination 1
unfolding counts_as place_of words table
rx-taken = refl

-- two wrong weights, A and B, A and idle alpha are lost
pub wrong-lost : pairing (counts_as 0x46) (counts_as 0x46) ≡ lost
unfolding counts_as place_of words table
wrong-lost = refl

pub other-lost : pairing (counts_as 0x47) (counts_as 0x72) ≡ lost
unfolding counts_as place_of words table
other-lost = refl

pub idle-lost : pairing (counts_as 0x47) (counts_as 0x0F) ≡ lost
unfolding counts_as place_of words table
idle-lost = refl

-- signal repetition and idle alpha, idle beta and a wrong weight are idle
pub phasing-idle : pairing (counts_as 0x66) (counts_as 0x0F) ≡ idle
unfolding counts_as place_of words table
phasing-idle = refl

pub beta-idle : pairing (counts_as 0x33) (counts_as 0x46) ≡ idle
unfolding counts_as place_of words table
beta-idle = refl

-- the words of the text A
abbrev pub words_of_a : List ℕ
words_of_a =
    0x66 ∷ 0x0F ∷ 0x66 ∷ 0x0F ∷ 0x66 ∷ 0x0F ∷ 0x66 ∷ 0x0F ∷ 0x47 ∷ 0x0F ∷ 0x0F ∷ 0x0F ∷ 0x0F ∷ 0x47
    ∷ 0x0F ∷ []

pub emission-a : emission (framed_positions (1 ∷ [])) ≡ words_of_a
unfolding emission word_sent framed_positions traffic_word row_of table
emission-a = refl

pub aligned_text-a : aligned_text words_of_a ≡ codes "A"
unfolding receptions taken_at counts_as place_of character_of row_of words table
aligned_text-a = refl

-- their elements, from the first
pub bits_of-a : words_of (bits_of words_of_a) ≡ words_of_a
unfolding bits_of elements elements_from words_of word_in number_of
bits_of-a = refl

-- A with its DX word lost, with both lost, and with another RX word
pub dx-damaged-a : aligned_text
    (0x66 ∷ 0x0F ∷ 0x66 ∷ 0x0F ∷ 0x66 ∷ 0x0F ∷ 0x66 ∷ 0x0F ∷ 0x46 ∷ 0x0F ∷ 0x0F ∷ 0x0F ∷ 0x0F ∷ 0x47
    ∷ 0x0F ∷ []) ≡ codes "A"
unfolding receptions taken_at counts_as place_of character_of row_of words table
dx-damaged-a = refl

pub both-damaged-a : aligned_text
    (0x66 ∷ 0x0F ∷ 0x66 ∷ 0x0F ∷ 0x66 ∷ 0x0F ∷ 0x66 ∷ 0x0F ∷ 0x46 ∷ 0x0F ∷ 0x0F ∷ 0x0F ∷ 0x0F ∷ 0x46
    ∷ 0x0F ∷ []) ≡ codes "*"
unfolding receptions taken_at counts_as place_of character_of row_of words table
both-damaged-a = refl

pub other-rx-a : aligned_text
    (0x66 ∷ 0x0F ∷ 0x66 ∷ 0x0F ∷ 0x66 ∷ 0x0F ∷ 0x66 ∷ 0x0F ∷ 0x47 ∷ 0x0F ∷ 0x0F ∷ 0x0F ∷ 0x0F ∷ 0x72
    ∷ 0x0F ∷ []) ≡ codes "*"
unfolding receptions taken_at counts_as place_of character_of row_of words table
other-rx-a = refl

-- the empty text has 13 words, of which nothing is printed
pub emission-empty : emission (framed_positions [])
    ≡ 0x66 ∷ 0x0F ∷ 0x66 ∷ 0x0F ∷ 0x66 ∷ 0x0F ∷ 0x66 ∷ 0x0F ∷ 0x0F ∷ 0x0F ∷ 0x0F ∷ 0x0F ∷ 0x0F ∷ []
unfolding emission word_sent framed_positions traffic_word row_of table
emission-empty = refl
