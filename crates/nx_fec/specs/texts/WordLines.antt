-- Words as text: a line for each (this profile).
use Rattle.std.specs.Prelude.{ℕ, if◌then◌else◌, List, [], ◌∷◌, ◌++◌, codes, length, map, slice_index, slice_index_or}
use Rattle.std.specs.Fmt.{decimal}
use Rattle.std.specs.List.{flat_map, range_with_len}
use Rattle.std.specs.Option.{option_map_or}
use Rattle.nx_code.specs.Reading.{newline, space}
use Rattle.nx_code.specs.Table.{row, table, place_of}
use Rattle.nx_fec.specs.emissions.Emission.{is_dx_slot}
use Rattle.nx_fec.specs.texts.Hexadecimal.{two_hex_digits}

-- the name of a word: what stands in the column Letter of its row, and `wrong` for a word that has
-- none
unfoldable pub word_name : ℕ → List ℕ
word_name word =
    option_map_or (λ place. (slice_index_or table place (row 0x00 [] [])).letter) (place_of word)
    (codes "wrong")

-- the role of a slot, as text
abbrev pub role_name : ℕ → List ℕ
role_name slot = if is_dx_slot slot then codes "DX" else codes "RX"

-- the line of a word in a slot: slot, role, number and name, with a space between two of them, and
-- a newline
unfoldable pub word_line : ℕ → ℕ → List ℕ
word_line slot word =
    decimal slot ++ space ∷ role_name slot ++ space ∷ two_hex_digits word ++ space ∷ word_name word
    ++ newline ∷ []

-- the words of the first slots, so many of them, each with its slot
abbrev pub first_slots : List ℕ → ℕ → List (ℕ × ℕ)
first_slots words count = map (λ slot. (slot, slice_index words slot)) (range_with_len 0 count)

-- their lines, and the lines of all words, in the order of their slots
unfoldable pub first_word_lines : List ℕ → ℕ → List ℕ
first_word_lines words count = flat_map (λ (p : ℕ × ℕ). word_line p.0 p.1) (first_slots words count)

abbrev pub word_lines : List ℕ → List ℕ
word_lines words = first_word_lines words (length words)
