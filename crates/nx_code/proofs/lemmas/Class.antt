-- The tables by class answer as the definitions do, by one computation each.
use Rattle.std.proofs.Common.{◌≡◌, ℕ, ◌+◌, ◌*◌, ◌/◌, ◌%◌, ◌<◌, refl, sym, ap, ap₂, ◌∙◌, not, true}
use Rattle.std.proofs.Common.{Option, None, [], map, get_or, eqb, ltb, zero, suc, inl, inr, arith}
use Rattle.std.specs.List.{range_with_len}
use Rattle.std.proofs.lemmas.Bool.{agree_below_at, cases_eq, eq-eqb, ltb-true, ne_eqb}
use Rattle.std.proofs.lemmas.List.{get_or-map}
use Rattle.std.proofs.lemmas.List.FromFn.{get_or-map-range_with_len}
use Rattle.nx_code.specs.declared.classes.TheConstants.{BY_WORD, PAIRED}
use Rattle.nx_code.specs.declared.printer_steps.TheConstants.{PRINTED, AFTER}
use Rattle.nx_code.specs.declared.shifts.Shift.{Shift}
use Rattle.nx_code.specs.declared.shifts.Shift.TheVariants.{Letters, Figures}
use Rattle.nx_code.specs.Classes.{class_of, paired, reception_of_class}
use Rattle.nx_code.specs.Reading.{byte_of, character_of, shift_after}
use Rattle.nx_code.specs.contracts.shifts.Shift.{the_type}
use Rattle.nx_code.specs.private.Rows.{byte_given}
use Rattle.nx_code.specs.Table.{place_of, row_of, table, words}
use Rattle.nx_code.specs.Word.{elements, elements_from, weight}
use denote.Enum.Declared.{tag_of}

all_classes : BY_WORD ≡ map class_of (range_with_len 0 128)
unfolding class_of place_of words table
all_classes = refl

pub class_of-BY_WORD : (word fallback : ℕ) → word < 128
    → get_or BY_WORD word fallback ≡ class_of word
class_of-BY_WORD word fallback h =
    ap (λ l. get_or l word fallback) all_classes
    ∙ get_or-map-range_with_len class_of 0 128 word word fallback h (omega arith)

pub class_of-low : (word : ℕ) → word < 128 → class_of word < 34
unfolding class_of place_of words table
class_of-low word h = ltb-true (class_of word) 34
    (agree_below_at (λ k. ltb (class_of k) 34) (λ _. true) 128 word refl h)

-- the shift of a column
abbrev shift_in : ℕ → Shift
shift_in zero = Letters
shift_in (suc n) = Figures

-- the column of a shift in the tables: its number
abbrev pub column : Shift → ℕ
column shift = tag_of the_type shift

-- a row of the tables, and the class and the shift that it is of
row-low : (class : ℕ) (shift : Shift) → class < 34 → 2 * class + column shift < 68
row-low class Letters h = omega arith
row-low class Figures h = omega arith

row-class : (class : ℕ) (shift : Shift) → (2 * class + column shift) / 2 ≡ class
row-class class Letters = omega arith
row-class class Figures = omega arith

row-shift : (class : ℕ) (shift : Shift) → shift_in ((2 * class + column shift) % 2) ≡ shift
row-shift class Letters = let e : (2 * class + 0) % 2 ≡ 0 = omega arith in ap shift_in e
row-shift class Figures = let e : (2 * class + 1) % 2 ≡ 1 = omega arith in ap shift_in e

-- what each row holds
byte_in : ℕ → Option ℕ
byte_in row = byte_of (reception_of_class (row / 2)) (shift_in (row % 2))

all_printed : map byte_given PRINTED ≡ map byte_in (range_with_len 0 68)
unfolding byte_in character_of row_of table
all_printed = refl

after_in : ℕ → Shift
after_in row = shift_after (reception_of_class (row / 2)) (shift_in (row % 2))

all_after : AFTER ≡ map after_in (range_with_len 0 68)
unfolding after_in
all_after = refl

pub byte_of-PRINTED : (class fallback : ℕ) (shift : Shift) → class < 34
    → byte_given (get_or PRINTED (2 * class + column shift) fallback)
    ≡ byte_of (reception_of_class class) shift
unfolding byte_in
byte_of-PRINTED class fallback shift h =
    let row : ℕ = 2 * class + column shift in
    let low = row-low class shift h in
    sym (get_or-map byte_given PRINTED row fallback None low)
    ∙ ap (λ l. get_or l row None) all_printed
    ∙ get_or-map-range_with_len byte_in 0 68 row row None low (omega arith)
    ∙ ap₂ (λ k s. byte_of (reception_of_class k) s) (row-class class shift) (row-shift class shift)

pub shift_after-AFTER : (class : ℕ) (fallback shift : Shift) → class < 34
    → get_or AFTER (2 * class + column shift) fallback
    ≡ shift_after (reception_of_class class) shift
unfolding after_in
shift_after-AFTER class fallback shift h =
    let row : ℕ = 2 * class + column shift in
    let low = row-low class shift h in
    ap (λ l. get_or l row fallback) all_after
    ∙ get_or-map-range_with_len after_in 0 68 row row fallback low (omega arith)
    ∙ ap₂ (λ k s. shift_after (reception_of_class k) s) (row-class class shift)
    (row-shift class shift)

-- the table of pairs
all_paired : PAIRED ≡ map (λ dx. map (paired dx) (range_with_len 0 34)) (range_with_len 0 34)
all_paired = refl

pub paired-PAIRED : (dx rx fallback : ℕ) → dx < 34 → rx < 34
    → get_or (get_or PAIRED dx []) rx fallback ≡ paired dx rx
paired-PAIRED dx rx fallback h i =
    ap (λ l. get_or (get_or l dx []) rx fallback) all_paired
    ∙ ap (λ l. get_or l rx fallback)
    (get_or-map-range_with_len (λ dx. map (paired dx) (range_with_len 0 34)) 0 34 dx dx [] h
    (omega arith))
    ∙ get_or-map-range_with_len (paired dx) 0 34 rx rx fallback i (omega arith)

pub paired-low : (dx rx : ℕ) → dx < 34 → rx < 34 → paired dx rx < 34
paired-low dx rx h i = elim (cases_eq rx 0) [
  | inl lost ↦ rw lost h
  | inr heard ↦ rw (ne_eqb rx 0 heard) (elim (cases_eq dx rx) [
    | inl same ↦ rw (eq-eqb dx rx same) h
    | inr other ↦ rw (ne_eqb dx rx other) (elim (cases_eq dx 0) [
      | inl lost ↦ rw (eq-eqb dx 0 lost) i
      | inr heard ↦ rw (ne_eqb dx 0 heard) (omega arith)
    ])
  ])
]

-- a word has weight four exactly where it has a class
pub weight-class_of : (word : ℕ) → word < 128 → eqb (weight word) 4 ≡ not (eqb (class_of word) 0)
unfolding weight elements elements_from class_of place_of words table
weight-class_of word h =
    agree_below_at (λ n. eqb (weight n) 4) (λ n. not (eqb (class_of n) 0)) 128 word refl h
