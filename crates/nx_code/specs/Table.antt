-- The table of the signals (ITU-R M.476 and M.625; the numbering of the words is this project's
-- own). Phasing signal 1 is idle signal alpha, and phasing signal 2 is signal repetition: that
-- their words stand so in the table is the law `phasing_signals_are_in_the_table`.
use Rattle.std.specs.Prelude.{ℕ, zero, suc, ◌==◌, ◌≤◌, List, [], ◌∷◌, Option, None, codes, map, position, slice_get, take, Bool, false, true}
use Rattle.std.specs.Option.{option_map_or}
use Rattle.nx_code.specs.Word.{word_numbers}
use Rattle.nx_code.specs.declared.shifts.Shift.{Shift}
use Rattle.nx_code.specs.declared.shifts.Shift.TheVariants.{Letters, Figures}

-- A row: the number of the word, and what stands in the columns Letter and Figure. One character
-- stands for itself, and a longer text is the name of a signal. An empty figure prints nothing.
pub record Row : Type 0 where
  pub word : ℕ
  pub letter : List ℕ
  pub figure : List ℕ

abbrev pub row : ℕ → List ℕ → List ℕ → Row
row word letter figure = record { word = word; letter = letter; figure = figure }

-- The 35 rows: the combinations 1 to 32, then idle alpha (phasing signal 1), idle beta and signal
-- repetition (phasing signal 2).
unfoldable pub table : List Row
table =
    row 0x47 (codes "A") (codes "-")
    ∷ row 0x72 (codes "B") (codes "?")
    ∷ row 0x1D (codes "C") (codes ":")
    ∷ row 0x53 (codes "D") []
    ∷ row 0x56 (codes "E") (codes "3")
    ∷ row 0x1B (codes "F") []
    ∷ row 0x35 (codes "G") []
    ∷ row 0x69 (codes "H") []
    ∷ row 0x4D (codes "I") (codes "8")
    ∷ row 0x17 (codes "J") []
    ∷ row 0x1E (codes "K") (codes "(")
    ∷ row 0x65 (codes "L") (codes ")")
    ∷ row 0x39 (codes "M") (codes ".")
    ∷ row 0x59 (codes "N") (codes ",")
    ∷ row 0x71 (codes "O") (codes "9")
    ∷ row 0x2D (codes "P") (codes "0")
    ∷ row 0x2E (codes "Q") (codes "1")
    ∷ row 0x55 (codes "R") (codes "4")
    ∷ row 0x4B (codes "S") (codes "'")
    ∷ row 0x74 (codes "T") (codes "5")
    ∷ row 0x4E (codes "U") (codes "7")
    ∷ row 0x3C (codes "V") (codes "=")
    ∷ row 0x27 (codes "W") (codes "2")
    ∷ row 0x3A (codes "X") (codes "/")
    ∷ row 0x2B (codes "Y") (codes "6")
    ∷ row 0x63 (codes "Z") (codes "+")
    ∷ row 0x78 (codes "CR") (codes "CR")
    ∷ row 0x6C (codes "LF") (codes "LF")
    ∷ row 0x5A (codes "LTRS") (codes "LTRS")
    ∷ row 0x36 (codes "FIGS") (codes "FIGS")
    ∷ row 0x5C (codes "SPACE") (codes "SPACE")
    ∷ row 0x6A (codes "BLANK") (codes "BLANK")
    ∷ row 0x0F (codes "P1") (codes "P1")
    ∷ row 0x33 (codes "BETA") (codes "BETA")
    ∷ row 0x66 (codes "P2") (codes "P2")
    ∷ []

-- what stands in the column of a shift
abbrev pub cell : Shift → Row → List ℕ
cell Letters row = row.letter
cell Figures row = row.figure

-- the numbers of the 35 words, in the order of the table
unfoldable pub words : List ℕ
words = map (λ row. row.word) table

-- the place of a word in the table, from 0; None where the word is none of the 35
unfoldable pub place_of : ℕ → Option ℕ
place_of word = position (λ row. row.word == word) table

-- how many combinations the code has: the first rows of the table (M.476)
abbrev pub combination_count : ℕ
combination_count = 32

-- a number of a combination
abbrev pub IsCombination : ℕ → Type 0
IsCombination number = (1 ≤ number) × (number ≤ combination_count)

-- the row of a combination, by its number from 1 to 32; no other number has one
unfoldable pub row_of : ℕ → Option Row
row_of zero = None
row_of (suc place) = slice_get (take combination_count table) place

-- the combinations that print what stands in no cell: the carriage return and the line feed, the
-- two shifts, and the space (M.476)
abbrev pub carriage_return : ℕ
carriage_return = 27

abbrev pub line_feed : ℕ
line_feed = 28

abbrev pub letter_shift : ℕ
letter_shift = 29

abbrev pub figure_shift : ℕ
figure_shift = 30

abbrev pub space_combination : ℕ
space_combination = 31

-- the number of the word of a combination, by its number from 1 to 32; for any other number one
-- that is no word's
unfoldable pub traffic_word : ℕ → ℕ
traffic_word number = option_map_or (λ row. row.word) (row_of number) word_numbers

-- the numbers of the words of the two phasing signals
abbrev pub phasing_1 : ℕ
phasing_1 = 0x0F

abbrev pub phasing_2 : ℕ
phasing_2 = 0x66

-- their elements in the order of sending, BBBBYYY and YBBYYBB
abbrev pub elements_of_phasing_1 : List Bool
elements_of_phasing_1 = true ∷ true ∷ true ∷ true ∷ false ∷ false ∷ false ∷ []

abbrev pub elements_of_phasing_2 : List Bool
elements_of_phasing_2 = false ∷ true ∷ true ∷ false ∷ false ∷ true ∷ true ∷ []
