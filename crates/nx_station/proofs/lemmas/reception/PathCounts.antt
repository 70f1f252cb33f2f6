-- How many words have the wrong weight.
use Rattle.std.proofs.Common.{◌≡◌, ℕ, zero, suc, ◌+◌, ◌<◌, ◌≤◌, ◌==◌, not, Bool, true, false, cond}
use Rattle.std.proofs.Common.{List, length, get_or, take, drop, refl, sym, ap, ◌∙◌, arith, eqb}
use Rattle.std.proofs.Common.{length-drop}
use Rattle.std.specs.List.{count_by}
use Rattle.std.proofs.lemmas.List.{get_or-drop}
use Rattle.std.proofs.lemmas.List.Sums.{count_by_more_yes, count_by_more_no}
use Rattle.nx_code.specs.Word.{weight, is_wrong, wrong_in}
use Rattle.nx_code.proofs.lemmas.WordCounts.{one_if-le}

-- a word of the wrong weight counts one
abbrev pub one_if_wrong : ℕ → ℕ
one_if_wrong word = cond (is_wrong word) 1 0

pub right-counts_none : (word : ℕ) → weight word ≡ 4 → one_if_wrong word ≡ 0
right-counts_none word h = ap (λ w. cond (not (eqb w 4)) 1 0) h

pub one_if_wrong-le : (word : ℕ) → one_if_wrong word ≤ 1
one_if_wrong-le word = one_if-le (is_wrong word)

pub wrong_in-right : (words : ℕ → ℕ) (i n : ℕ) → ((j : ℕ) → j < n → weight (words (i + j)) ≡ 4)
    → wrong_in words i n ≡ 0
unfolding wrong_in
wrong_in-right words i zero h = refl
wrong_in-right words i (suc n) h =
    omega (
      arith,
      wrong_in-right words i n (λ j lt. h j (omega arith)),
      right-counts_none
          (words (i + n)) (h n (omega arith)),
    )

-- one word, and two more words
pub wrong_in-one : (words : ℕ → ℕ) (i n : ℕ)
    → wrong_in words i (n + 1) ≡ wrong_in words i n + one_if_wrong (words (i + n))
unfolding wrong_in
wrong_in-one words i n = let e : n + 1 ≡ suc n = omega arith in ap (wrong_in words i) e

-- the count of a part of a list
count-step : (xs : List ℕ) (n : ℕ) → n < length xs → (b : Bool) → (weight (get_or xs n 0) == 4) ≡ b
    → count_by is_wrong (take (n + 1) xs) ≡ count_by is_wrong (take n xs) + cond (not b) 1 0
count-step xs n lt true h = count_by_more_no is_wrong xs n 0 lt (ap not h) ∙ omega arith
count-step xs n lt false h = count_by_more_yes is_wrong xs n 0 lt (ap not h)

pub wrong_in-count : (heard : List ℕ) (words : ℕ → ℕ) (i first n : ℕ) → first + n ≤ length heard
    → ((j : ℕ) → words (i + j) ≡ get_or heard (first + j) 0)
    → wrong_in words i n ≡ count_by is_wrong (take n (drop first heard))
unfolding wrong_in
wrong_in-count heard words i first zero h same = refl
wrong_in-count heard words i first (suc n) h same =
    let e : suc n ≡ n + 1 = omega arith in
    let here : words (i + n) ≡ get_or (drop first heard) n 0 =
    same n ∙ sym (get_or-drop first heard n 0) in
    let one = ap one_if_wrong here in
    let step = count-step (drop first heard) n (omega (arith, length-drop first heard))
    (weight (get_or (drop first heard) n 0) == 4) refl in
    omega (arith, wrong_in-count heard words i first n (omega arith) same, one, step)
    ∙ ap (λ k. count_by is_wrong (take k (drop first heard))) (sym e)
