-- The marks of the last words of a lock as the bits of one number, the newest in the highest place.
-- Marks that aren't there are bits that aren't set.
use Rattle.std.proofs.Common.{◌≡◌, ℕ, zero, suc, ◌+◌, ◌-◌, ◌*◌, ◌/◌, ◌%◌, ◌^◌, ◌<◌, ◌≤◌, ◌==◌, min}
use Rattle.std.proofs.Common.{List, [], ◌∷◌, ◌++◌, length, drop, replicate}
use Rattle.std.proofs.Common.{Bool, true, false, cond, count_by, refl, sym, ap, ap₂, subst, ◌∙◌}
use Rattle.std.proofs.Common.{inl, inr, arith, append_assoc, append-nil, length-append, length-drop}
use Rattle.std.proofs.Common.{drop-drop}
use lib.Count.{ones_step}
use Rattle.std.specs.Int.RustNames.{count_ones}
use Rattle.std.specs.Simd.Lanes.{mask_l}
use Rattle.std.proofs.Math.Nat.{pow-succ'}
use Rattle.std.proofs.Math.Pow.{shr_lt}
use Rattle.std.proofs.Math.Seq.{drop-append-add}
use Rattle.std.proofs.lemmas.Bool.{cases_eq, cases_lt, ne_eqb}
use Rattle.std.proofs.lemmas.List.{drop-append-le, length-map, length-replicate}
use Rattle.std.proofs.lemmas.List.Sums.{sum_by-append, sum_by-cons, sum_by-take-drop}
use Rattle.circular_buffer.specs.Buffer.{keep_last}
use Rattle.nx_code.specs.Word.{elements_from, number_of, value_of, is_wrong}
use Rattle.nx_code.proofs.lemmas.Packed.{length-elements_from, elements_from-drop}
use Rattle.nx_code.proofs.lemmas.Packed.{elements_from-join, number_of-elements_from}
use Rattle.nx_code.proofs.lemmas.Word.{elements_from-number_of}
use Rattle.nx_sync.specs.Words.{marked_words}
use Rattle.nx_sync.specs.private.Eight.{wrong_ones, marks_after_words}
use Rattle.nx_sync.specs.private.MarkBits.{marks_in, padded}
use Rattle.nx_sync.proofs.lemmas.states.Lists.{keep_last-push, keep_last-padded, padded-append, length-padded}

-- the bits of a number, behind which new ones come in
shifted : (k bits more : ℕ) → k ≤ 64 → bits < 2 ^ 64
    → elements_from 64 (bits / 2 ^ k + 2 ^ (64 - k) * more)
    ≡ drop k (elements_from 64 bits) ++ elements_from k more
shifted k bits more few within =
    let e : 64 - k + k ≡ 64 = omega arith in
    let d : k + (64 - k) ≡ 64 = omega arith in
    let low : bits / 2 ^ k < 2 ^ (64 - k) =
    shr_lt (64 - k) k (subst (λ n. bits < 2 ^ n) (sym e) within) in
    let high : drop k (elements_from 64 bits) ≡ elements_from (64 - k) (bits / 2 ^ k) =
    ap (λ n. drop k (elements_from n bits)) (sym d) ∙ elements_from-drop k (64 - k) bits in
    ap (λ n. elements_from n (bits / 2 ^ k + 2 ^ (64 - k) * more)) (sym e)
    ∙ (elements_from-join (64 - k) k (bits / 2 ^ k) more low
    ∙ ap (λ xs. xs ++ elements_from k more) (sym high))

-- the last 64 marks are those at the end of the padded ones
last_padded : (xs : List Bool)
    → drop (64 - min (length xs) 64) (padded xs) ≡ keep_last 64 xs
last_padded xs =
    let pad : List Bool = replicate 64 false in
    let l : length pad ≡ 64 = length-replicate 64 false in
    let e : length (pad ++ xs) - 64 ≡ length xs = simp length-append (omega arith) in
    let n : length xs + (64 - min (length xs) 64) ≡ length pad + (length xs - 64) = omega arith in
    ap (λ i. drop (64 - min (length xs) 64) (drop i (pad ++ xs))) e
    ∙ (drop-drop (64 - min (length xs) 64) (length xs) (pad ++ xs)
    ∙ (ap (λ i. drop i (pad ++ xs)) n ∙ drop-append-add pad xs (length xs - 64)))

-- marks that are gone leave no trace
padded_last : (xs : List Bool) → padded (keep_last 64 xs) ≡ padded xs
padded_last xs = elim (cases_lt (length xs) 64) [
  | inl few ↦
      let z : length xs - 64 ≡ 0 = omega arith in
      ap (λ i. padded (drop i xs)) z
  | inr many ↦
      let l : length (keep_last 64 xs) ≡ 64 = simp length-drop (omega arith) in
      let z : length (keep_last 64 xs) - 64 ≡ 0 = omega arith in
      keep_last-padded 64 (keep_last 64 xs) (omega arith)
      ∙ (ap (λ i. drop i (keep_last 64 xs)) z ∙ sym (keep_last-padded 64 xs many))
]

pub bits_of-eight : (xs : List Bool) → length xs ≡ 8 → elements_from 8 (number_of xs) ≡ xs
bits_of-eight xs l = ap (λ n. elements_from n (number_of xs)) (sym l) ∙ elements_from-number_of xs

pub bit_of : (b : Bool) (v : ℕ) → v ≡ value_of b → elements_from 1 v ≡ b ∷ []
unfolding number_of
bit_of b v is =
    let e : v ≡ number_of (b ∷ []) = omega (arith, is) in
    ap (elements_from 1) e ∙ elements_from-number_of (b ∷ [])

-- what is missing isn't set
unset : (count bits : ℕ) → number_of (padded (marks_in count bits)) ≡ bits
    → elements_from 64 bits ≡ padded (marks_in count bits)
unset count bits is =
    ap (elements_from 64) (sym is)
    ∙ (ap (λ n. elements_from n (number_of (padded (marks_in count bits))))
    (sym (length-padded 64 (marks_in count bits)))
    ∙ elements_from-number_of (padded (marks_in count bits)))

pub length-marks_in : (count bits : ℕ) → count ≤ 64 → length (marks_in count bits) ≡ count
length-marks_in count bits within =
    simp length-drop (omega (arith, length-elements_from 64 bits))

-- What a number and a count of marks are after more marks: they are the last ones of all, and what
-- is missing isn't set.
pub record Moved (count bits : ℕ) (old more : List Bool) : Type 0 where
  pub marks : marks_in count bits ≡ keep_last 64 (old ++ more)
  pub number : number_of (padded (marks_in count bits)) ≡ bits

pub moved : (k count bits new next : ℕ) (more : List Bool) → k ≤ 64 → count ≤ 64 → bits < 2 ^ 64
    → number_of (padded (marks_in count bits)) ≡ bits → elements_from k new ≡ more
    → next ≡ bits / 2 ^ k + 2 ^ (64 - k) * new → next < 2 ^ 64
    → Moved (min (count + k) 64) next (marks_in count bits) more
moved k count bits new next more few within fits is from here low =
    let old : List Bool = marks_in count bits in
    let all : List Bool = old ++ more in
    let long : length more ≡ k = ap length (sym from) ∙ length-elements_from k new in
    let many : length all ≡ count + k =
    simp length-append (omega (arith, length-marks_in count bits within)) in
    let whole : elements_from 64 next ≡ padded all =
    ap (elements_from 64) here
    ∙ (shifted k bits new few fits
    ∙ (ap₂ (λ xs ys. drop k xs ++ ys) (unset count bits is) from
    ∙ (ap (λ n. drop n (padded old) ++ more) (sym long)
    ∙ padded-append 64 old more (omega arith)))) in
    let marks : marks_in (min (count + k) 64) next ≡ keep_last 64 all =
    ap₂ (λ n xs. drop (64 - min n 64) xs) (sym many) whole ∙ last_padded all in
    record {
      marks = marks;
      number = ap (λ xs. number_of (padded xs)) marks
          ∙ (ap number_of (padded_last all ∙ sym whole) ∙ number_of-elements_from 64 next low);
    }

-- the marks of words that come one after the other are the last ones of all
marks_from : (words : List ℕ) (marks : List Bool)
    → marks_after_words (keep_last marked_words marks) words
    ≡ keep_last marked_words (marks ++ wrong_ones words)
unfolding marks_after_words
marks_from [] marks = ap (keep_last marked_words) (sym (append-nil marks))
marks_from (word ∷ words) marks =
    let one : List Bool = is_wrong word ∷ [] in
    ap (λ xs. marks_after_words xs words) (keep_last-push marked_words marks (is_wrong word))
    ∙ (marks_from words (marks ++ one)
    ∙ ap (keep_last marked_words) (append_assoc marks one (wrong_ones words)))

pub marks_after : (words : List ℕ) (marks : List Bool) → length marks ≤ marked_words
    → marks_after_words marks words ≡ keep_last marked_words (marks ++ wrong_ones words)
marks_after words marks few =
    let z : length marks - marked_words ≡ 0 = omega arith in
    ap (λ i. marks_after_words (drop i marks) words) (sym z) ∙ marks_from words marks

one_if_odd : (x : ℕ) → cond (x % 2 == 1) 1 0 ≡ x % 2
one_if_odd x = elim (cases_eq (x % 2) 1) [
  | inl one ↦ rw one refl
  | inr other ↦ rw (ne_eqb (x % 2) 1 other) (omega arith)
]

-- the marks of eight words
pub moved_by_eight : (count bits new next : ℕ) (words : List ℕ) → count ≤ 64 → bits < 2 ^ 64
    → number_of (padded (marks_in count bits)) ≡ bits → length words ≡ 8
    → new ≡ number_of (wrong_ones words) → next ≡ bits / 2 ^ 8 + 2 ^ 56 * new → next < 2 ^ 64
    → Moved (min (count + 8) 64) next (marks_in count bits) (wrong_ones words)
moved_by_eight count bits new next words within fits is eight marks here low =
    let l : length (wrong_ones words) ≡ 8 = length-map words is_wrong ∙ eight in
    moved 8 count bits new next (wrong_ones words) (omega arith) within fits is
    (ap (elements_from 8) marks ∙ bits_of-eight (wrong_ones words) l) here low

-- as many bits of a number are set as its count says
ones_counted : (n x : ℕ) → x < 2 ^ n → count_ones x ≡ count_by (λ b. b) (elements_from n x)
unfolding elements_from count_ones
ones_counted zero x h =
    let z : x ≡ 0 = omega arith in
    rw z refl
ones_counted (suc n) x h =
    let e : 2 ^ suc n ≡ 2 * 2 ^ n = pow-succ' 2 n in
    let rest = ones_counted n (x / 2) (omega (arith, e)) in
    let first : cond (x % 2 == 1) 1 0 ≡ x % 2 = one_if_odd x in
    let more = sum_by-cons (λ b. cond b 1 0) (x % 2 == 1) (elements_from n (x / 2)) in
    omega (arith, ones_step x, rest, first, more)

-- as many of the marks are set as bits
pub count_set : (count bits : ℕ) → count ≤ 64 → bits < 2 ^ 64
    → number_of (padded (marks_in count bits)) ≡ bits
    → count_ones bits ≡ count_by (λ b. b) (marks_in count bits)
count_set count bits within fits is =
    let pad : List Bool = replicate 64 false in
    let marks : List Bool = marks_in count bits in
    let many : length marks ≡ count = length-marks_in count bits within in
    let e : length (pad ++ marks) - 64 ≡ count =
    simp length-append (omega (arith, length-replicate 64 false)) in
    let front : padded marks ≡ drop count pad ++ marks =
    ap (λ i. drop i (pad ++ marks)) e
    ∙ drop-append-le count pad marks (omega (arith, length-replicate 64 false)) in
    let none : count_by (λ b. b) pad ≡ 0 = refl in
    let parts = sum_by-take-drop (λ b. cond b 1 0) pad count in
    let both = sum_by-append (λ b. cond b 1 0) (drop count pad) marks in
    ones_counted 64 bits fits
    ∙ (ap (count_by (λ b. b)) (unset count bits is ∙ front) ∙ omega (arith, none, parts, both))

-- the bits of a mask are those of the number
pub mask_is_number : (bits : List Bool) → mask_l bits ≡ number_of bits
unfolding number_of
mask_is_number [] = refl
mask_is_number (true ∷ bits) = ap (λ n. 1 + 2 * n) (mask_is_number bits)
mask_is_number (false ∷ bits) = ap (λ n. 0 + 2 * n) (mask_is_number bits)
