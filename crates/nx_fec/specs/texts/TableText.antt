-- The table of the code as text: a line for each signal (this profile).
use Rattle.std.specs.Prelude.{ℕ, Bool, true, false, List, [], ◌∷◌, ◌++◌, codes, map}
use Rattle.std.specs.List.{flat_map}
use Rattle.nx_code.specs.Reading.{newline, space}
use Rattle.nx_code.specs.Word.{elements}
use Rattle.nx_code.specs.Table.{Row, table}
use Rattle.nx_fec.specs.texts.Hexadecimal.{two_hex_digits}

-- the letter B
abbrev pub letter_b : ℕ
letter_b = 66

-- the letter Y
abbrev pub letter_y : ℕ
letter_y = 89

-- the letter of an element
abbrev pub element_letter : Bool → ℕ
element_letter true = letter_b
element_letter false = letter_y

-- what is written for an empty cell
abbrev pub empty_cell : List ℕ
empty_cell = codes "none"

-- the text of a cell: what stands in it, if anything does
abbrev pub cell_text : List ℕ → List ℕ
cell_text [] = empty_cell
cell_text (c ∷ cs) = c ∷ cs

-- the line of a row: number, elements, letter and figure, with a space between two of them, and a
-- newline
unfoldable pub table_line : Row → List ℕ
table_line row =
    two_hex_digits row.word ++ space ∷ map element_letter (elements row.word)
    ++ space ∷ cell_text row.letter ++ space ∷ cell_text row.figure ++ newline ∷ []

-- the lines of all 35 rows, in the order of the table
unfoldable pub table_text : List ℕ
table_text = flat_map table_line table
