-- What is taken of the first slots of aligned words, one position more.
use Rattle.std.proofs.Common.{◌≡◌, ℕ, zero, suc, subst, append_assoc, append-nil, ◌+◌, ◌-◌, ◌*◌}
use Rattle.std.proofs.Common.{◌/◌, ◌<◌, ◌≤◌, refl, sym, ap, ◌∙◌, Bool, List, [], ◌∷◌, ◌++◌, length}
use Rattle.std.proofs.Common.{map, get_or, arith}
use Rattle.std.specs.List.{range_with_len}
use Rattle.std.proofs.lemmas.List.FromFn.{length-map-range_with_len, get_or-map-range_with_len}
use Rattle.std.proofs.lemmas.List.FromFn.{map-range_with_len_more}
use Rattle.std.proofs.Common.{inl, inr, slice_get, slice_index, Some, None}
use Rattle.std.proofs.lemmas.List.{ext_get_or, get_or_append_left}
use Rattle.std.proofs.lemmas.Option.{slice_get-get_or, slice_get_past}
use Rattle.std.proofs.lemmas.Bool.{cases_lt}
use Rattle.std.proofs.lemmas.Bool.Decides.{nat_tests}
use Rattle.std.proofs.lemmas.Grind.{get_or_default_zero}
use Rattle.nx_code.specs.Classes.{reception_of_class}
use Rattle.nx_code.specs.Reading.{Reception}
use Rattle.nx_fec.specs.emissions.Pairing.{Counted, IsLatest, nothing, counts_as, pairing, third_last}
use Rattle.nx_fec.specs.emissions.Pairing.{five_before}
use Rattle.nx_fec.proofs.lemmas.emissions.Pairing.{third_last-early, third_last-late}
use Rattle.nx_fec.specs.emissions.Aligned.{word_in, words_of, dx_words, taken_at, receptions}

-- what is taken at the first RX slots
abbrev pub taken_first : List ℕ → ℕ → List Reception
taken_first words n = map (λ i. taken_at words (2 * i + 1)) (range_with_len 0 n)

pub length-words_of : (bits : List Bool) → length (words_of bits) ≡ length bits / 7
unfolding words_of
length-words_of bits = length-map-range_with_len (word_in bits) 0 (length bits / 7)

pub get_or-words_of : (bits : List Bool) (slot : ℕ) → slot < length bits / 7
    → get_or (words_of bits) slot 0 ≡ word_in bits slot
unfolding words_of
get_or-words_of bits slot h =
    get_or-map-range_with_len (word_in bits) 0 (length bits / 7) slot slot 0 h (omega arith)

pub dx_words-more : (words : List ℕ) (first n : ℕ) (x : Counted)
    → x ≡ counts_as (get_or words (2 * n + first) 0)
    → dx_words words first n ++ x ∷ [] ≡ dx_words words first (n + 1)
unfolding dx_words
dx_words-more words first n x h =
    ap (λ y. dx_words words first n ++ y ∷ []) h
    ∙ sym (map-range_with_len_more (λ i. counts_as (get_or words (2 * i + first) 0)) 0 n n
    (omega arith))

pub dx_words-longer : (words more : List ℕ) (first n : ℕ) → 2 * n + first ≤ length words + 1
    → dx_words (words ++ more) first n ≡ dx_words words first n
unfolding dx_words
dx_words-longer words more first n h =
    let long = λ (i : ℕ). counts_as (get_or (words ++ more) (2 * i + first) 0) in
    let short = λ (i : ℕ). counts_as (get_or words (2 * i + first) 0) in
    let l = length-map-range_with_len long 0 n in
    let m = length-map-range_with_len short 0 n in
    ext_get_or nothing (map long (range_with_len 0 n)) (map short (range_with_len 0 n)) (l ∙ sym m)
    (λ i below.
    get_or-map-range_with_len long 0 n i i nothing (omega (arith, below, l)) (omega arith)
    ∙ ap counts_as (get_or_append_left words more 0 (2 * i + first) (omega (arith, below, l, h)))
    ∙ sym (get_or-map-range_with_len short 0 n i i nothing (omega (arith, below, l)) (omega arith)))

pub taken_first-more : (words : List ℕ) (n : ℕ) (x : Reception) → x ≡ taken_at words (2 * n + 1)
    → taken_first words n ++ x ∷ [] ≡ taken_first words (n + 1)
taken_first-more words n x h =
    ap (λ y. taken_first words n ++ y ∷ []) h
    ∙ sym (map-range_with_len_more (λ i. taken_at words (2 * i + 1)) 0 n n (omega arith))

pub five_before-early : (words : List ℕ) (slot : ℕ) → slot < 5
    → five_before (slice_index words) slot ≡ nothing
five_before-early words slot h = grind (arith, nat_tests)

pub five_before-late : (words : List ℕ) (slot : ℕ) → 5 ≤ slot
    → five_before (slice_index words) slot ≡ counts_as (get_or words (slot - 5) 0)
five_before-late words slot h = grind (arith, nat_tests)

length-dx_words : (words : List ℕ) (first n : ℕ) → length (dx_words words first n) ≡ n
unfolding dx_words
length-dx_words words first n =
    length-map-range_with_len (λ i. counts_as (get_or words (2 * i + first) 0)) 0 n

get_or-dx_words : (words : List ℕ) (first n i : ℕ) → i < n
    → get_or (dx_words words first n) i nothing ≡ counts_as (get_or words (2 * i + first) 0)
unfolding dx_words
get_or-dx_words words first n i h =
    get_or-map-range_with_len (λ i. counts_as (get_or words (2 * i + first) 0)) 0 n i i nothing h
    (omega arith)

-- the third last of the DX words before an RX word stands five words before it
pub third_last-dx_words : (words : List ℕ) (first n : ℕ) → first ≤ 1
    → third_last (dx_words words first n) ≡ five_before (slice_index words) (2 * n + first - 1)
third_last-dx_words words first n small =
    let len = length-dx_words words first n in
    elim (cases_lt n 3) [
      | inl early ↦ third_last-early (dx_words words first n) (omega arith)
          ∙ sym (five_before-early words (2 * n + first - 1) (omega arith))
      | inr late ↦
          third_last-late (dx_words words first n) (omega arith)
          ∙ ap (λ k. get_or (dx_words words first n) (k - 3) nothing) len
          ∙ get_or-dx_words words first n (n - 3) (omega arith)
          ∙ ap (λ k. counts_as (get_or words k 0))
          (let e : 2 * (n - 3) + first ≡ 2 * n + first - 1 - 5 = omega arith in e)
          ∙ sym (five_before-late words (2 * n + first - 1) (omega arith))
    ]

-- the RX word of a pair of slots comes after as many DX words as there are pairs up to it
pub third_last-pairs : (words : List ℕ) (n : ℕ)
    → third_last (dx_words words 0 (n + 1)) ≡ five_before (slice_index words) (2 * n + 1)
third_last-pairs words n =
    let slot : 2 * (n + 1) + 0 - 1 ≡ 2 * n + 1 = omega arith in
    third_last-dx_words words 0 (n + 1) (omega arith) ∙ ap (five_before (slice_index words)) slot

-- as many RX slots as there are pairs of words
pub taken_first-all : (bits : List Bool) (n : ℕ) → n ≡ length bits / 14
    → taken_first (words_of bits) n ≡ receptions (words_of bits)
unfolding receptions
taken_first-all bits n h =
    let words : length (words_of bits) ≡ length bits / 7 = length-words_of bits in
    let e : n ≡ length (words_of bits) / 2 = omega (arith, words) in
    ap (taken_first (words_of bits)) e

-- the position that is taken from a slot pair
pub taken_at-pairing : (words : List ℕ) (n : ℕ)
    → taken_at words (2 * n + 1)
    ≡ pairing (five_before (slice_index words) (2 * n + 1)) (counts_as (get_or words (2 * n + 1) 0))
unfolding taken_at
taken_at-pairing words n = refl

-- the word of a slot, and none past the last
pub slice_get-words_of : (bits : List Bool) (slot : ℕ) → slot < length bits / 7
    → slice_get (words_of bits) slot ≡ Some (word_in bits slot)
slice_get-words_of bits slot h =
    let n = length-words_of bits in
    slice_get-get_or (words_of bits) slot 0 (omega arith) ∙ ap Some (get_or-words_of bits slot h)

pub slice_get-words_of_none : (bits : List Bool) (slot : ℕ) → length bits / 7 ≤ slot
    → slice_get (words_of bits) slot ≡ None
slice_get-words_of_none bits slot h =
    let n = length-words_of bits in
    slice_get_past (words_of bits) slot (omega arith)

-- ---- DX and RX words by turns, after other DX words
