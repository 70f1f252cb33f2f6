-- Words and their elements (ITU-R M.476 and M.625: seven elements, each B or Y; four B and three Y
-- in a signal).
use Rattle.std.specs.Prelude.{ℕ, ◌+◌, ◌*◌, ◌/◌, ◌%◌, ◌==◌, ◌≢◌, Bool, true, false, not, List, [], ◌∷◌, sum_by, take, drop, zero, suc, if◌then◌else◌}

-- how many elements a word has
abbrev pub word_elements : ℕ
word_elements = 7

-- the place of a word's last element in the word, from 0
abbrev pub last_element : ℕ
last_element = 6

-- how many numbers words have: 2 ^ 7
abbrev pub word_numbers : ℕ
word_numbers = 128

-- the lowest elements of a number, so many of them, in the order of sending: the least place first,
-- 1 is B
unfoldable pub elements_from : ℕ → ℕ → List Bool
elements_from zero number = []
elements_from (suc count) number = (number % 2 == 1) ∷ elements_from count (number / 2)

-- the seven elements of a word
unfoldable pub elements : ℕ → List Bool
elements number = elements_from word_elements number

-- what an element counts: B is 1, Y is 0
abbrev pub value_of : Bool → ℕ
value_of true = 1
value_of false = 0

-- the number whose elements these are
unfoldable pub number_of : List Bool → ℕ
number_of [] = 0
number_of (bit ∷ bits) = value_of bit + 2 * number_of bits

-- how many of a word's elements are B
unfoldable pub weight : ℕ → ℕ
weight number = sum_by value_of (elements number)

-- the number of the word whose seven elements begin at this place of a list
abbrev pub word_from : List Bool → ℕ → ℕ
word_from bits place = number_of (take word_elements (drop place bits))

-- how many elements are B in a word that stands for a signal (M.476, M.625)
abbrev pub signal_weight : ℕ
signal_weight = 4

-- a word has another weight than a signal, and so stands for none
abbrev pub HasWrongWeight : ℕ → Type 0
HasWrongWeight word = weight word ≢ signal_weight

-- whether a word has another weight than a signal
abbrev pub is_wrong : ℕ → Bool
is_wrong word = not (weight word == signal_weight)

-- how many of the words i to i + n - 1 have the wrong weight
unfoldable pub wrong_in : (ℕ → ℕ) → ℕ → ℕ → ℕ
wrong_in words i zero = 0
wrong_in words i (suc n) = wrong_in words i n + (if is_wrong (words (i + n)) then 1 else 0)
