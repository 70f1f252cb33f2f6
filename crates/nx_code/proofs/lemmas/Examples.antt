-- The definitions of the code, evaluated on worked examples.
use Rattle.std.proofs.Common.{◌≡◌, ℕ, true, false, List, [], ◌∷◌, ◌++◌, Some, None, map, take}
use Rattle.std.proofs.Common.{replicate, refl, codes, arith}
use Rattle.nx_code.specs.declared.shifts.Shift.TheVariants.{Letters, Figures}
use Rattle.nx_code.specs.Lists.{last_of}
use Rattle.nx_code.specs.Word.{elements, elements_from, number_of, weight, word_from}
use Rattle.nx_code.specs.Packed.{elements_of_numbers}
use Rattle.nx_code.specs.Table.{row, table, words, place_of, row_of, traffic_word}
use Rattle.nx_code.specs.Reading.{combination, idle, lost, character_of, shift_after_all, text}
use Rattle.nx_code.specs.Reading.{characters, is_in_code}
use Rattle.nx_code.specs.Spelling.{Spells}
use Rattle.nx_code.proofs.lemmas.Spelling.{Spells-push, spells_newline, spells_here, spells_there}

-- ---- words and lists

-- BBBYYYB is the word 47 of A, of weight four
pub elements_of_a : elements 0x47 ≡ true ∷ true ∷ true ∷ false ∷ false ∷ false ∷ true ∷ []
unfolding elements elements_from
elements_of_a = refl

pub weight_of_a : weight 0x47 ≡ 4
unfolding weight elements elements_from
weight_of_a = refl

pub weight_of_seven : weight 0x7F ≡ 7
unfolding weight elements elements_from
weight_of_seven = refl

-- the word that begins at the third of nine elements
pub word_inside : word_from (false ∷ false ∷ true ∷ true ∷ true ∷ false ∷ false ∷ false ∷ true ∷ [])
    2 ≡ 0x47
unfolding number_of
word_inside = refl

-- 66 elements of two numbers: BYB, then 60 times Y, then B in the last place of the first one and
-- in the second place of the second one
pub packed : take 66 (elements_of_numbers (0x8000000000000005 ∷ 2 ∷ []))
    ≡ true ∷ false ∷ true ∷ replicate 60 false ++ true ∷ false ∷ true ∷ []
unfolding elements_of_numbers elements_from
packed = refl

pub last_two : last_of {A = ℕ} 2 (5 ∷ 6 ∷ 7 ∷ []) ≡ 6 ∷ 7 ∷ []
last_two = refl

pub all_of_two : last_of {A = ℕ} 3 (6 ∷ 7 ∷ []) ≡ 6 ∷ 7 ∷ []
all_of_two = refl

-- ---- the table

pub row_of_a : row_of 1 ≡ Some (row 0x47 (codes "A") (codes "-"))
unfolding row_of table
row_of_a = refl

pub row_of_blank : row_of 32 ≡ Some (row 0x6A (codes "BLANK") (codes "BLANK"))
unfolding row_of table
row_of_blank = refl

-- there is no combination 0, nor any past 32
pub no_row_of_0 : row_of 0 ≡ None
unfolding row_of table
no_row_of_0 = refl

pub no_row_of_33 : row_of 33 ≡ None
unfolding row_of table
no_row_of_33 = refl

pub word_of_z : traffic_word 26 ≡ 0x63
unfolding traffic_word row_of table
word_of_z = refl

pub no_word_of_0 : traffic_word 0 ≡ 128
unfolding traffic_word row_of table
no_word_of_0 = refl

-- idle signal alpha stands behind the combinations; 00 has no place
pub place_of_alpha : place_of 0x0F ≡ Some 32
unfolding place_of words table
place_of_alpha = refl

pub no_place_of_0 : place_of 0 ≡ None
unfolding place_of words table
no_place_of_0 = refl

-- ---- what is printed

pub d_in_letters : character_of 4 Letters ≡ Some 68
unfolding character_of row_of table
d_in_letters = refl

pub nothing_in_figures : character_of 4 Figures ≡ None
unfolding character_of row_of table
nothing_in_figures = refl

pub newline_in_figures : character_of 28 Figures ≡ Some 10
unfolding character_of
newline_in_figures = refl

pub nothing_for_0 : character_of 0 Letters ≡ None
unfolding character_of row_of
nothing_for_0 = refl

pub nothing_for_33 : character_of 33 Letters ≡ None
unfolding character_of row_of table
nothing_for_33 = refl

-- A, figure shift, 1, space, 2, -, letter shift, B, carriage return, line feed
pub combinations_of_example : List ℕ
combinations_of_example = 1 ∷ 30 ∷ 17 ∷ 31 ∷ 23 ∷ 1 ∷ 29 ∷ 2 ∷ 27 ∷ 28 ∷ []

pub text_of_example : text (map combination combinations_of_example) Letters
    ≡ codes "A1 2-B" ++ 10 ∷ []
unfolding combinations_of_example character_of row_of table
text_of_example = refl

-- neither a lost position nor a space nor an idle one changes the shift
pub text_with_lost : text
    (combination 30 ∷ combination 17 ∷ lost ∷ combination 31 ∷ idle ∷ combination 23 ∷ []) Letters
    ≡ codes "1* 2"
unfolding character_of row_of table
text_with_lost = refl

pub shift_with_lost : shift_after_all (combination 30 ∷ lost ∷ combination 31 ∷ idle ∷ []) Letters
    ≡ Figures
shift_with_lost = refl

-- ---- characters and spelling

pub a_is_in_code : is_in_code 65 ≡ true
unfolding is_in_code characters
a_is_in_code = refl

pub lower_a_is_not : is_in_code 97 ≡ false
unfolding is_in_code characters
lower_a_is_not = refl

-- a character more, in the shift that is then in force
spelled_a : Spells (codes "A") Letters (1 ∷ [])
unfolding character_of row_of table
spelled_a = spells_here Letters 1 65 (omega arith) (omega arith) refl (λ e. omega arith)

spelled_1 : Spells (codes "A1") Letters (1 ∷ 30 ∷ 17 ∷ [])
unfolding character_of row_of table
spelled_1 =
    Spells-push (codes "A") 49 Letters Letters (1 ∷ []) (30 ∷ 17 ∷ []) (1 ∷ 30 ∷ 17 ∷ []) spelled_a
    refl
    (spells_there Figures Letters 30 17 49 refl refl (omega arith) (omega arith) refl (λ e. cc)
    (λ e. omega arith)) refl

-- A1 and a newline
pub spelled_line : Spells (codes "A1" ++ 10 ∷ []) Letters (1 ∷ 30 ∷ 17 ∷ 27 ∷ 28 ∷ [])
spelled_line =
    Spells-push (codes "A1") 10 Letters Figures (1 ∷ 30 ∷ 17 ∷ []) (27 ∷ 28 ∷ [])
    (1 ∷ 30 ∷ 17 ∷ 27 ∷ 28 ∷ []) spelled_1 refl (spells_newline Figures) refl

-- a shift that is in force already isn't sent again
pub needless_shift : Spells (codes "A") Letters (29 ∷ 1 ∷ []) → ⊥
needless_shift h = (h.fits.0.needed Letters refl).0 refl

-- a shift isn't sent before a space, which stands in both
pub early_shift : Spells (codes " 1") Letters (30 ∷ 31 ∷ 17 ∷ []) → ⊥
unfolding character_of
early_shift h = (h.fits.0.needed Figures refl).1.1 refl

-- a line feed isn't sent without a carriage return, nor a carriage return alone
pub line_feed_alone : Spells (10 ∷ []) Letters (28 ∷ []) → ⊥
line_feed_alone h = h.begins refl

pub return_alone : Spells [] Letters (27 ∷ []) → ⊥
return_alone h = let clash = h.fits.0.carriage_return.0 refl in cc

-- combination 32 isn't sent, nor the figure of D
pub blank : Spells [] Letters (32 ∷ []) → ⊥
unfolding character_of row_of table
blank h = h.fits.0.not_silent
    (record { prints_nothing = refl; sets_no_shift = refl; no_return = λ e. omega arith })

pub figure_of_d : Spells [] Figures (4 ∷ []) → ⊥
unfolding character_of row_of table
figure_of_d h = h.fits.0.not_silent
    (record { prints_nothing = refl; sets_no_shift = refl; no_return = λ e. omega arith })
