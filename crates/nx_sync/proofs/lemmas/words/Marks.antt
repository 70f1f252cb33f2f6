-- The marks of the words of a lock, and what is decided by them.
use Rattle.std.proofs.Common.{◌≡◌, ℕ, zero, suc, ◌+◌, ◌-◌, ◌*◌, ◌/◌, ◌%◌, ◌^◌, ◌<◌, ◌≤◌, ◌==◌, List}
use Rattle.std.proofs.Common.{[], ◌∷◌, ◌++◌, length, drop, Bool, true, false, ◌&&◌}
use Rattle.std.proofs.Common.{cond, count_by, refl, sym, ap, ap₂, ◌∙◌, inl, inr, arith}
use Rattle.std.proofs.lemmas.Bool.{cases_lt, le-leb, lt-leb}
use Rattle.std.proofs.lemmas.List.{length_push, drop-append-le, drop_all}
use Rattle.std.proofs.lemmas.List.Sums.{sum_by_push}
use Rattle.circular_buffer.specs.Buffer.{keep_last}
use Rattle.nx_sync.specs.declared.step.Role.{Role}
use Rattle.nx_sync.specs.declared.track.Track.{Track}
use Rattle.nx_code.specs.Table.{phasing_1}
use Rattle.nx_sync.specs.Words.{marked_words, is_dx, role_of, wrong_until}
use Rattle.nx_code.proofs.lemmas.WordCounts.{one_if}
use Rattle.nx_sync.specs.private.Releases.{releases_as_ended, change_at}
use Rattle.nx_sync.specs.Synchroniser.{wrong_marks, was_p1, p1_marks}
use Rattle.nx_sync.specs.private.Calls.{fills_releasing_word, change_of}
use Rattle.nx_code.specs.Word.{number_of, value_of, is_wrong, wrong_in}
use Rattle.nx_sync.proofs.lemmas.hunting.Numbers.{number_of-next, first_bit, third_on}
use Rattle.nx_sync.proofs.lemmas.states.Lists.{keep_last-push}
use Rattle.nx_sync.proofs.lemmas.words.Roles.{role_of-even}

-- marks look at their words alone
pub wrong_marks-same : (f g : ℕ → ℕ) (n : ℕ) → ((j : ℕ) → j < n → f j ≡ g j)
    → wrong_marks f n ≡ wrong_marks g n
unfolding wrong_marks
wrong_marks-same f g zero same = refl
wrong_marks-same f g (suc n) same =
    ap₂ (λ xs w. xs ++ is_wrong w ∷ []) (wrong_marks-same f g n (λ j h. same j (omega arith)))
    (same n (omega arith))

was_p1-same : (first : Role) (f g : ℕ → ℕ) (i : ℕ) → (5 ≤ i → f (i - 5) ≡ g (i - 5))
    → was_p1 first f i ≡ was_p1 first g i
was_p1-same first f g i same = elim (cases_lt i 5) [
  | inl early ↦ rw (lt-leb 5 i early) refl
  | inr late ↦ rw (same late) refl
]

pub p1_marks-same : (first : Role) (f g : ℕ → ℕ) (n : ℕ) → ((j : ℕ) → j < n → f j ≡ g j)
    → p1_marks first f n ≡ p1_marks first g n
unfolding p1_marks
p1_marks-same first f g n same =
    let at : (i : ℕ) → i < n + 5 → was_p1 first f i ≡ was_p1 first g i =
    λ i near. was_p1-same first f g i (λ h. same (i - 5) (omega arith)) in
    rw (
      at n (omega arith),
      at (n + 1) (omega arith),
      at (n + 2) (omega arith),
      at (n + 3)
          (omega arith),
      at (n + 4) (omega arith),
    ) refl

-- the marks after one more word
pub p1_marks-next : (first : Role) (f : ℕ → ℕ) (n : ℕ)
    → drop 1 (p1_marks first f n) ++ (is_dx (role_of first n) && (f n == phasing_1)) ∷ []
    ≡ p1_marks first f (n + 1)
unfolding p1_marks
p1_marks-next first f n =
    let e2 : n + 1 + 1 ≡ n + 2 = omega arith in
    let e3 : n + 1 + 2 ≡ n + 3 = omega arith in
    let e4 : n + 1 + 3 ≡ n + 4 = omega arith in
    let e5 : n + 1 + 4 - 5 ≡ n = omega arith in
    rw (e2, e3, e4, le-leb 5 (n + 1 + 4) (omega arith), e5) refl

length-p1_marks : (first : Role) (f : ℕ → ℕ) (n : ℕ) → length (p1_marks first f n) ≡ 4 + 1
unfolding p1_marks
length-p1_marks first f n = refl

-- as a number
pub p1_number-next : (first : Role) (f : ℕ → ℕ) (n : ℕ)
    → number_of (p1_marks first f n) / 2
    + 2 ^ 4 * value_of (is_dx (role_of first n) && (f n == phasing_1))
    ≡ number_of (p1_marks first f (n + 1))
p1_number-next first f n =
    sym (number_of-next 4 (p1_marks first f n) (is_dx (role_of first n) && (f n == phasing_1))
    (length-p1_marks first f n))
    ∙ ap number_of (p1_marks-next first f n)

-- no word is there before the first
pub p1_number-none : (first : Role) (f : ℕ → ℕ) → number_of (p1_marks first f 0) ≡ 0
unfolding p1_marks number_of
p1_number-none first f = refl

-- the oldest of the five marks, and the one two words later, from their number
p1_oldest : (first : Role) (f : ℕ → ℕ) (k : ℕ)
    → (number_of (p1_marks first f k) % 2 == 1) ≡ was_p1 first f k
unfolding p1_marks number_of
p1_oldest first f k = first_bit (was_p1 first f k) _

p1_third : (first : Role) (f : ℕ → ℕ) (k : ℕ)
    → (number_of (p1_marks first f k) / 4 % 2 == 1) ≡ was_p1 first f (k + 2)
unfolding p1_marks number_of
p1_third first f k =
    ap (λ n. n % 2 == 1) (third_on (was_p1 first f k) (was_p1 first f (k + 1)) _)
    ∙ first_bit (was_p1 first f (k + 2)) _

both_dx : (a b c : Bool) → ((a && b) && (a && c)) ≡ (a && c && b)
both_dx true true true = refl
both_dx true true false = refl
both_dx true false true = refl
both_dx true false false = refl
both_dx false b c = refl

-- the test of the track is the definition's
pub fills_releasing_word-is : (first : Role) (f : ℕ → ℕ) (k : ℕ) (track : Track)
    → track.was_p1 ≡ number_of (p1_marks first f k)
    → fills_releasing_word track ≡ releases_as_ended first f k
unfolding releases_as_ended
fills_releasing_word-is first f k track m =
    let tests : fills_releasing_word track ≡ (was_p1 first f k && was_p1 first f (k + 2)) =
    rw (m, p1_oldest first f k, p1_third first f k) refl in
    tests
    ∙ elim (cases_lt k 5) [
      | inl early ↦ rw (lt-leb 5 k early) refl
      | inr late ↦
          let e : k + 2 - 5 ≡ k - 3 = omega arith in
          let d : k - 5 + 2 * 1 ≡ k - 3 = omega arith in
          let same : is_dx (role_of first (k - 5)) ≡ is_dx (role_of first (k - 3)) =
          ap is_dx (sym (role_of-even first (k - 5) 1)) ∙ ap (λ j. is_dx (role_of first j)) d in
          rw (le-leb 5 k late, le-leb 5 (k + 2) (omega arith), e, same)
          (both_dx (is_dx (role_of first (k - 3))) (f (k - 5) == phasing_1)
          (f (k - 3) == phasing_1))
    ]

pub length-wrong_marks : (f : ℕ → ℕ) (n : ℕ) → length (wrong_marks f n) ≡ n
unfolding wrong_marks
length-wrong_marks f zero = refl
length-wrong_marks f (suc n) =
    length_push (wrong_marks f n) (is_wrong (f n)) ∙ omega (arith, length-wrong_marks f n)

-- the marks from word i on are counted as the definition counts them
count-marks : (f : ℕ → ℕ) (i n : ℕ)
    → count_by (λ b. b) (drop i (wrong_marks f (i + n))) ≡ wrong_in f i n
unfolding wrong_marks wrong_in
count-marks f i zero = let e : i + 0 ≡ i = omega arith in
    rw (e, drop_all i (wrong_marks f i) (omega (arith, length-wrong_marks f i))) refl
count-marks f i (suc n) =
    let e : i + suc n ≡ suc (i + n) = omega arith in
    rw (
      e,
      drop-append-le i (wrong_marks f (i + n)) (is_wrong (f (i + n)) ∷ [])
          (omega (arith, length-wrong_marks f (i + n))),
    )
    (sum_by_push (λ b. cond b 1 0) (drop i (wrong_marks f (i + n))) (is_wrong (f (i + n)))
    ∙ ap (λ s. s + one_if (is_wrong (f (i + n)))) (count-marks f i n))

pub count-last_marks : (f : ℕ → ℕ) (k : ℕ)
    → count_by (λ b. b) (keep_last marked_words (wrong_marks f (k + 1))) ≡ wrong_until f k
count-last_marks f k =
    let e : length (wrong_marks f (k + 1)) - marked_words ≡ k + 1 - marked_words =
    omega (arith, length-wrong_marks f (k + 1)) in
    let s : k + 1 - marked_words + (k + 1 - (k + 1 - marked_words)) ≡ k + 1 = omega arith in
    ap (λ i. count_by (λ b. b) (drop i (wrong_marks f (k + 1)))) e
    ∙ (ap (λ n. count_by (λ b. b) (drop (k + 1 - marked_words) (wrong_marks f n))) (sym s)
    ∙ count-marks f (k + 1 - marked_words) (k + 1 - (k + 1 - marked_words)))

-- the marks after one more word
pub wrong_marks-next : (f : ℕ → ℕ) (n : ℕ)
    → keep_last marked_words (keep_last marked_words (wrong_marks f n) ++ is_wrong (f n) ∷ [])
    ≡ keep_last marked_words (wrong_marks f (n + 1))
unfolding wrong_marks
wrong_marks-next f n =
    let e : n + 1 ≡ suc n = omega arith in
    rw e (keep_last-push marked_words (wrong_marks f n) (is_wrong (f n)))

-- what the track and the marks decide is the definition's change
pub change_of-change_at : (first : Role) (f : ℕ → ℕ) (k : ℕ) (track : Track) (wrong : List Bool)
    → track.was_p1 ≡ number_of (p1_marks first f k)
    → wrong ≡ keep_last marked_words (wrong_marks f (k + 1))
    → change_of track wrong ≡ change_at first f k
unfolding change_at
change_of-change_at first f k track wrong m w =
    rw (fills_releasing_word-is first f k track m, w, count-last_marks f k) refl
