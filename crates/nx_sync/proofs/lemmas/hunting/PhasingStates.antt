-- What each kind of state becomes in 48 phasing words: a hunt, a lock on other limits, one with
-- swapped roles, a right one.
use Rattle.std.proofs.Common.{◌≡◌, ℕ, zero, suc, ◌+◌, ◌-◌, ◌*◌, ◌/◌, ◌%◌, ◌<◌, ◌≤◌, List, ◌++◌}
use Rattle.std.proofs.Common.{length, take, drop, Bool, true, false, refl, sym, ap, subst, ◌∙◌, inl}
use Rattle.std.proofs.Common.{inr, arith, Some, None, Option, append_assoc, drop-drop}
use Rattle.std.proofs.Common.{length-append, length-take}
use Rattle.std.proofs.Math.Seq.{drop-append-add}
use Rattle.std.proofs.lemmas.Bool.{cases_lt, cases_eq, both_ways}
use Rattle.std.proofs.lemmas.List.{take-append-drop}
use Rattle.nx_code.specs.Table.{phasing_1, phasing_2}
use Rattle.nx_sync.specs.declared.step.Role.{Role}
use Rattle.nx_sync.specs.declared.step.Role.TheVariants.{Dx, Rx}
use Rattle.nx_sync.specs.declared.step.Change.{Change}
use Rattle.nx_sync.specs.Words.{marked_words, losing_count, other_role, word_of_lock, first_role}
use Rattle.nx_sync.specs.Words.{role_of, wrong_until}
use Rattle.nx_code.specs.Word.{is_wrong, wrong_in, elements, elements_from}
use Rattle.nx_sync.specs.Locks.{pattern_elements, before_dx, before_rx, IsPattern, Finds}
use Rattle.nx_sync.specs.Locks.{IsSecondPhasing1, Lock, IsHunting, IsLocked}
use Rattle.nx_sync.specs.private.Releases.{release}
use Rattle.nx_sync.specs.Laws.{phasing, IsOnPhasing, IsBetweenLimits, IsReleasedBy}
use Rattle.nx_sync.proofs.lemmas.words.Roles.{role_of-even}
use Rattle.nx_code.proofs.lemmas.WordCounts.{wrong_in-add, wrong_in-all, wrong_in-none}
use Rattle.nx_sync.proofs.lemmas.states.KeptPast.{wrong_in-same, IsPattern-less, word_at-more, Past-within}
use Rattle.nx_sync.proofs.lemmas.words.Computed.{IsSecondPhasing1-to, at_none, holds-from, least_released}
use Rattle.nx_sync.proofs.lemmas.words.Releases.{stands_longer}
use Rattle.nx_sync.proofs.lemmas.hunting.Phasing.{phase_at, length-phasing, limit-true, limit-zero}
use Rattle.nx_sync.proofs.lemmas.hunting.Phasing.{role_of-three_on, number_at_bit, phasing_heard, inside_aligned}

-- phasing without its first pairs
drop-pairs : (q n : ℕ) → drop (14 * q) (phasing (q + n)) ≡ phasing n
unfolding phasing
drop-pairs zero n = let e : 0 + n ≡ n = omega arith in ap phasing e
drop-pairs (suc q) n =
    let e : suc q + n ≡ suc (q + n) = omega arith in
    let d : 14 * suc q ≡ 14 + 14 * q = omega arith in
    ap (λ k. drop (14 * suc q) (phasing k)) e
    ∙ (ap (λ k. drop k (phasing (suc (q + n)))) d
    ∙ (sym (drop-drop (14 * q) 14 (phasing (suc (q + n)))) ∙ drop-pairs q n))

two_pairs : (n : ℕ) → take pattern_elements (phasing (suc (suc n))) ≡ before_dx
unfolding phasing before_dx elements elements_from
two_pairs n = refl

three_pairs : (n : ℕ) → take pattern_elements (drop 7 (phasing (suc (suc (suc n))))) ≡ before_rx
unfolding phasing before_rx elements elements_from
three_pairs n = refl

-- the patterns in 24 pairs
even_pattern : (q : ℕ) → q ≤ 22 → take pattern_elements (drop (14 * q) (phasing 24)) ≡ before_dx
even_pattern q h =
    let e : q + suc (suc (22 - q)) ≡ 24 = omega arith in
    ap (λ n. take pattern_elements (drop (14 * q) (phasing n))) (sym e)
    ∙ (ap (take pattern_elements) (drop-pairs q (suc (suc (22 - q)))) ∙ two_pairs (22 - q))

odd_pattern : (q : ℕ) → q ≤ 21 → take pattern_elements (drop (14 * q + 7) (phasing 24)) ≡ before_rx
odd_pattern q h =
    let e : q + suc (suc (suc (21 - q))) ≡ 24 = omega arith in
    ap (take pattern_elements) (sym (drop-drop 7 (14 * q) (phasing 24)))
    ∙ (ap (λ n. take pattern_elements (drop 7 (drop (14 * q) (phasing n)))) (sym e)
    ∙ (ap (λ xs. take pattern_elements (drop 7 xs)) (drop-pairs q (suc (suc (suc (21 - q)))))
    ∙ three_pairs (21 - q)))

module _ (earlier : List Bool) where
  split_at : (i : ℕ) → (earlier ++ take i (phasing 24)) ++ drop i (phasing 24)
      ≡ earlier ++ phasing 24
  split_at i = append_assoc earlier (take i (phasing 24)) (drop i (phasing 24))
      ∙ ap (λ xs. earlier ++ xs) (take-append-drop i (phasing 24))

  length-part : (i : ℕ) → i ≤ 336 → length (earlier ++ take i (phasing 24)) ≡ length earlier + i
  length-part i h =
      let l : length (phasing 24) ≡ 336 = length-phasing 24 in
      simp (length-append, length-take) (omega arith)

  window_at : (i : ℕ) → pattern_elements ≤ i
      → take pattern_elements (drop (length earlier + i - pattern_elements) (earlier ++ phasing 24))
      ≡ take pattern_elements (drop (i - pattern_elements) (phasing 24))
  window_at i h =
      let e : length earlier + i - pattern_elements ≡ length earlier + (i - pattern_elements) =
      omega arith in
      ap (λ j. take pattern_elements (drop j (earlier ++ phasing 24))) e
      ∙ ap (take pattern_elements) (drop-append-add earlier (phasing 24) (i - pattern_elements))

  -- at each word limit from the fourth on there is a pattern
  pattern_at_limit : (j : ℕ) → 4 ≤ j → j ≤ 48
      → IsPattern (earlier ++ phasing 24) (length earlier + 7 * j)
  pattern_at_limit j low high = record {
    enough = omega arith;
    heard = omega (arith, phasing_heard earlier);
    pattern = elim (cases_eq (j % 2) 0) [
      | inl even ↦
          let e : 7 * j - pattern_elements ≡ 14 * ((j - 4) / 2) = omega arith in
          inl (window_at (7 * j) (omega arith)
          ∙ (ap (λ k. take pattern_elements (drop k (phasing 24))) e
          ∙ even_pattern ((j - 4) / 2) (omega arith)))
      | inr odd ↦
          let e : 7 * j - pattern_elements ≡ 14 * ((j - 4) / 2) + 7 = omega arith in
          inr (window_at (7 * j) (omega arith)
          ∙ (ap (λ k. take pattern_elements (drop k (phasing 24))) e
          ∙ odd_pattern ((j - 4) / 2) (omega arith)))
    ];
  }

  on_phasing : (t : ℕ) → IsPattern (earlier ++ phasing 24) t → length earlier + 7 ≤ t
      → IsOnPhasing (earlier ++ phasing 24) (length earlier) t
  on_phasing t here h =
      let x = inside_aligned earlier t here h in
      record { g = x.g; a = x.a; place = x.place; dx = x.dx }

  -- a hunt finds the pattern at the next word limit
  pub hunt_locks : (i p : ℕ) (locks : List Lock) → pattern_elements ≤ i → i < 336
      → IsHunting (earlier ++ take i (phasing 24)) locks p
      → Finds (earlier ++ phasing 24) p (length earlier + 7 * (i / 7 + 1))
      × IsOnPhasing (earlier ++ phasing 24) (length earlier) (length earlier + 7 * (i / 7 + 1))
  hunt_locks i p locks low high now =
      let here = pattern_at_limit (i / 7 + 1) (omega arith) (omega arith) in
      let l = length-part i (omega arith) in
      let within = Past-within (earlier ++ take i (phasing 24)) locks p now.past in (
        record {
          after = omega (arith, within, l);
          here = here;
          least = λ s after before at. elim (cases_lt (length earlier + i) s) [
            | inl late ↦
                let x = inside_aligned earlier s at (omega arith) in
                absurd (omega (arith, x.place))
            | inr early ↦
                let at' = subst (λ xs. IsPattern xs s) (sym (split_at i)) at in
                now.none s after (IsPattern-less (earlier ++ take i (phasing 24))
                (drop i (phasing 24)) s (omega (arith, l)) at')
          ];
        },
        on_phasing (length earlier + 7 * (i / 7 + 1)) here (omega arith),
      )

  -- a word that brings a change is there, so there is a least one
  released_by : (t w m : ℕ) → (release (earlier ++ phasing 24) t w ≡ None → ⊥) → t + 7 * (w + 1) ≤ m
      → m ≤ length earlier + 336 → IsReleasedBy (earlier ++ phasing 24) t m
  released_by t w m some_change fits within = by_change (release (earlier ++ phasing 24) t w) refl
    where
      by_change : (change : Option Change) → release (earlier ++ phasing 24) t w ≡ change
          → IsReleasedBy (earlier ++ phasing 24) t m
      by_change None e = absurd (some_change e)
      by_change (Some how) e =
          let least = least_released (earlier ++ phasing 24) t w how
          (omega (arith, phasing_heard earlier)) e in
          record {
            word = least.0;
            how = least.2.0;
            by = omega (arith, least.1);
            released =
                least.2.1;
          }

  -- a lock on other limits meets as many wrong words as lose it
  module _ (t : ℕ) (here : IsPattern (earlier ++ phasing 24) t)
      (between : IsBetweenLimits (length earlier) t) where
    begins_before : t < length earlier + 7
    begins_before = elim (cases_lt t (length earlier + 7)) [
      | inl before ↦ before
      | inr late ↦
          let x = inside_aligned earlier t here late in
          let e : t + 7 * x.g ≡ length earlier + 7 * (2 * x.a) = omega (arith, x.place) in
          absurd (between.apart x.g (2 * x.a) e)
    ]

    pub between_wrong : (k : ℕ) → length earlier ≤ t + 7 * k
        → t + 7 * (k + 1) ≤ length earlier + 336
        → is_wrong (word_of_lock (earlier ++ phasing 24) t k) ≡ true
    between_wrong k from fits =
        let c : ℕ = t + 7 * k - length earlier in
        let e : t + 7 * k ≡ length earlier + c = omega arith in
        let kind = phase_at 24 c (omega arith) in
        ap is_wrong (number_at_bit earlier t k c e) ∙ (kind.wrong ∙ limit-true (c % 14)
        (λ z. let j : t + 7 * k ≡ length earlier + 7 * (c / 7) = omega arith in
        between.apart k (c / 7) j)
        (λ s. let j : t + 7 * k ≡ length earlier + 7 * (c / 7) = omega arith in
        between.apart k (c / 7) j))

    pub between_released : IsReleasedBy (earlier ++ phasing 24) t
        (length earlier + (6 + 7 * losing_count))
    between_released =
        let f : ℕ → ℕ = word_of_lock (earlier ++ phasing 24) t in
        let first : Role = first_role (earlier ++ phasing 24) t in
        let low = begins_before in
        let k : ℕ = (length earlier + 6 - t) / 7 in
        let w : ℕ = k + (losing_count - 1) in
        let all : (j : ℕ) → j < losing_count → is_wrong (f (k + j)) ≡ true =
        λ j h. between_wrong (k + j) (omega arith) (omega arith) in
        let b : ℕ = w + 1 - marked_words in
        let split : w + 1 - b ≡ k - b + losing_count = omega arith in
        let at : b + (k - b) ≡ k = omega arith in
        let count : wrong_in f b (w + 1 - b) ≡ wrong_in f b (k - b) + wrong_in f k losing_count =
        ap (wrong_in f b) split ∙ (wrong_in-add f b (k - b) losing_count
        ∙ ap (λ j. wrong_in f b (k - b) + wrong_in f j losing_count) at) in
        released_by t w (length earlier + (6 + 7 * losing_count))
        (λ none. omega (
          arith,
          (at_none first f w none).1,
          count,
          wrong_in-all f k losing_count
              all,
        ))
        (omega arith) (omega arith)

  -- a lock with swapped roles has phasing signal 1 in its DX words
  module _ (t k : ℕ) (limit : t + 7 * k ≡ length earlier)
      (swapped : role_of (first_role (earlier ++ phasing 24) t) k ≡ Rx) where
    first_p1 : word_of_lock (earlier ++ phasing 24) t (k + 1) ≡ phasing_1
    first_p1 = number_at_bit earlier t (k + 1) 7 (omega arith)
        ∙ (phase_at 24 7 (omega arith)).first refl

    second_p1 : word_of_lock (earlier ++ phasing 24) t (k + 3) ≡ phasing_1
    second_p1 = number_at_bit earlier t (k + 3) 21 (omega arith)
        ∙ (phase_at 24 21 (omega arith)).first refl

    pub swapped_second : IsSecondPhasing1 (first_role (earlier ++ phasing 24) t)
        (word_of_lock (earlier ++ phasing 24) t) (k + 3)
    swapped_second =
        let d : k + 3 - 2 ≡ k + 1 = omega arith in
        record {
          two = omega arith;
          dx = role_of-three_on k (first_role (earlier ++ phasing 24) t) swapped;
          this = second_p1;
          before = ap (word_of_lock (earlier ++ phasing 24) t) d ∙ first_p1;
        }

    pub swapped_released : IsReleasedBy (earlier ++ phasing 24) t (length earlier + 49)
    swapped_released =
        let first : Role = first_role (earlier ++ phasing 24) t in
        let f : ℕ → ℕ = word_of_lock (earlier ++ phasing 24) t in
        let e : k + 6 - 3 ≡ k + 3 = omega arith in
        let ends = IsSecondPhasing1-to first f (k + 6) (omega arith)
        (subst (IsSecondPhasing1 first f) (sym e) swapped_second) in
        released_by t (k + 6) (length earlier + 49)
        (λ none. both_ways _ (at_none first f (k + 6) none).0 ends)
        (omega arith) (omega arith)

-- an odd number of words on, the role is the other one
role_of-odd : (first : Role) (g j : ℕ)
    → role_of first (g + 2 * j + 1) ≡ other_role (role_of first g)
unfolding role_of
role_of-odd first g j = let e : g + 2 * j + 1 ≡ suc (g + 2 * j) = omega arith in
    ap (role_of first) e ∙ ap other_role (role_of-even first g j)

not_both : (role : Role) → role ≡ Dx → role ≡ Rx → ⊥
not_both role d r = let e : Dx ≡ Rx = sym d ∙ r in cc

-- DX words stand an even number of words apart
even_apart : (first : Role) (g k : ℕ) → role_of first g ≡ Dx → role_of first k ≡ Dx → g ≤ k
    → (k - g) % 2 ≡ 0
even_apart first g k d h below = elim (cases_eq ((k - g) % 2) 0) [
  | inl even ↦ even
  | inr odd ↦
      let e : k ≡ g + 2 * ((k - g) / 2) + 1 = omega arith in
      absurd (not_both (role_of first k) h
      (ap (role_of first) e ∙ (role_of-odd first g ((k - g) / 2) ∙ ap other_role d)))
]

-- a window that ends with right words has no more wrong ones than the window that ended before them
fewer_in_window : (f : ℕ → ℕ) (b w : ℕ) → b ≤ w
    → ((j : ℕ) → b ≤ j → j < w + 1 → is_wrong (f j) ≡ false) → wrong_until f b < losing_count
    → wrong_until f w < losing_count
fewer_in_window f b w below right few =
    let i : ℕ = w + 1 - marked_words in
    let h : ℕ = b + 1 - marked_words in
    elim (cases_lt i b) [
      | inl before ↦
          let split : w + 1 - i ≡ b - i + (w + 1 - b) = omega arith in
          let at : i + (b - i) ≡ b = omega arith in
          let count : wrong_in f i (w + 1 - i) ≡ wrong_in f i (b - i) + wrong_in f b (w + 1 - b) =
          ap (wrong_in f i) split ∙ (wrong_in-add f i (b - i) (w + 1 - b)
          ∙ ap (λ j. wrong_in f i (b - i) + wrong_in f j (w + 1 - b)) at) in
          let later : wrong_in f b (w + 1 - b) ≡ 0 =
          wrong_in-none f b (w + 1 - b) (λ j s. right (b + j) (omega arith) (omega arith)) in
          let part : b + 1 - h ≡ i - h + (b - i) + 1 = omega arith in
          let from : h + (i - h) ≡ i = omega arith in
          let first = ap (wrong_in f h) part ∙ wrong_in-add f h (i - h + (b - i)) 1 in
          let second : wrong_in f h (i - h + (b - i))
          ≡ wrong_in f h (i - h) + wrong_in f i (b - i) =
          wrong_in-add f h (i - h) (b - i)
          ∙ ap (λ j. wrong_in f h (i - h) + wrong_in f j (b - i)) from in
          omega (arith, count, later, first, second, few)
      | inr after ↦
          let none : wrong_in f i (w + 1 - i) ≡ 0 =
          wrong_in-none f i (w + 1 - i) (λ j s. right (i + j) (omega arith) (omega arith)) in
          omega (arith, none)
    ]

none_wrong_at_first : (f : ℕ → ℕ) → is_wrong (f 0) ≡ false → wrong_until f 0 < losing_count
none_wrong_at_first f right =
    let none : wrong_in f 0 1 ≡ 0 =
    wrong_in-none f 0 1 (λ j s. let z : 0 + j ≡ 0 = omega arith in
    ap (λ n. is_wrong (f n)) z ∙ right) in
    omega (arith, none)

module _ (earlier : List Bool) (i : ℕ) (low : pattern_elements ≤ i) (high : i ≤ 336) (t : ℕ)
    (x : IsOnPhasing (earlier ++ phasing 24) (length earlier) t) where
  -- its words in the phasing are right, and the DX words phasing signal 2
  on_right : (k : ℕ) → length earlier ≤ t + 7 * k → t + 7 * (k + 1) ≤ length earlier + 336
      → is_wrong (word_of_lock (earlier ++ phasing 24) t k) ≡ false
  on_right k from fits =
      let c : ℕ = t + 7 * k - length earlier in
      let e : t + 7 * k ≡ length earlier + c = omega arith in
      let kind = phase_at 24 c (omega arith) in
      let limit : c % 7 ≡ 0 = omega (arith, x.place) in
      ap is_wrong (number_at_bit earlier t k c e)
      ∙ (kind.wrong ∙ limit-zero (c % 14)
      (elim (cases_eq (c % 14) 0) [ inl z ↦ inl z | inr n ↦ inr (omega arith) ]))

  on_second : (k : ℕ) → length earlier ≤ t + 7 * k → t + 7 * (k + 1) ≤ length earlier + 336
      → role_of (first_role (earlier ++ phasing 24) t) k ≡ Dx
      → word_of_lock (earlier ++ phasing 24) t k ≡ phasing_2
  on_second k from fits dx =
      let c : ℕ = t + 7 * k - length earlier in
      let e : t + 7 * k ≡ length earlier + c = omega arith in
      let kind = phase_at 24 c (omega arith) in
      let place = x.place in
      let pair : c % 14 ≡ 0 = elim (cases_lt k x.g) [
        | inr above ↦ let even = even_apart (first_role (earlier ++ phasing 24) t) x.g k x.dx dx
            above in omega arith
        | inl below ↦ let even = even_apart (first_role (earlier ++ phasing 24) t) k x.g dx x.dx
            (omega arith) in omega arith
      ] in
      number_at_bit earlier t k c e ∙ kind.second pair

  -- how many were wrong up to the word that is over at the first of the phasing words, where the
  -- lock began before them
  now_few : (locks : List Lock) (p : ℕ) → IsLocked (earlier ++ take i (phasing 24)) locks p t
      → (k : ℕ) → t + 7 * (k + 1) ≤ length earlier + i
      → wrong_until (word_of_lock (earlier ++ phasing 24) t) k < losing_count
  now_few locks p now k h =
      let l = length-part earlier i high in
      let quiet = holds-from (earlier ++ take i (phasing 24)) t now.holds k (omega (arith, h, l)) in
      let count = (at_none (first_role (earlier ++ take i (phasing 24)) t)
      (word_of_lock (earlier ++ take i (phasing 24)) t) k quiet).1 in
      let same : wrong_until (word_of_lock ((earlier ++ take i (phasing 24)) ++ drop i (phasing 24))
      t) k ≡ wrong_until (word_of_lock (earlier ++ take i (phasing 24)) t) k =
      wrong_in-same (word_of_lock ((earlier ++ take i (phasing 24)) ++ drop i (phasing 24)) t)
      (word_of_lock (earlier ++ take i (phasing 24)) t) (k + 1 - marked_words)
      (k + 1 - (k + 1 - marked_words))
      (λ j s. word_at-more (earlier ++ take i (phasing 24)) (drop i (phasing 24)) t j
      (omega (arith, h, l))) in
      subst (λ xs. wrong_until (word_of_lock xs t) k < losing_count) (split_at earlier i)
      (omega (arith, same, count))

  few_wrong : (w : ℕ) → ((k : ℕ) → t + 7 * (k + 1) ≤ length earlier + i
      → wrong_until (word_of_lock (earlier ++ phasing 24) t) k < losing_count)
      → length earlier + i < t + 7 * (w + 1) → t + 7 * (w + 1) ≤ length earlier + 336
      → t ≤ length earlier + i → wrong_until (word_of_lock (earlier ++ phasing 24) t)
      w < losing_count
  few_wrong w before after fits began =
      let f : ℕ → ℕ = word_of_lock (earlier ++ phasing 24) t in
      let place = x.place in
      elim (cases_lt (length earlier) t) [
        | inl inside ↦ fewer_in_window f 0 w (omega arith)
            (λ j s h. on_right j (omega arith) (omega arith))
            (none_wrong_at_first f (on_right 0 (omega arith) (omega arith)))
        | inr outside ↦
            let b : ℕ = (length earlier - t) / 7 in
            let limit : t + 7 * b ≡ length earlier = omega (arith, place) in
            fewer_in_window f b w (omega arith) (λ j s h. on_right j (omega arith) (omega arith))
            (before b (omega arith))
      ]

  pub right_stays : (locks : List Lock) (p : ℕ)
      → IsLocked (earlier ++ take i (phasing 24)) locks p t
      → IsLocked (earlier ++ phasing 24) locks p t
  right_stays locks p now =
      let l = length-part earlier i high in
      let all = split_at earlier i in
      let place = x.place in
      let f : ℕ → ℕ = word_of_lock (earlier ++ phasing 24) t in
      let began = now.found.here.heard in
      subst (λ xs. IsLocked xs locks p t) all
      (stands_longer (earlier ++ take i (phasing 24)) (drop i (phasing 24)) locks p t now
      (λ w after fits. subst (λ xs. wrong_until (word_of_lock xs t) w < losing_count) (sym all)
      (few_wrong w (now_few locks p now) (omega (arith, after, l))
      (omega (arith, fits, ap length all, phasing_heard earlier)) (omega (arith, began, l))))
      (λ k after fits second.
      let at = subst (λ xs. IsSecondPhasing1 (first_role xs t) (word_of_lock xs t) k) all second in
      let e = on_second k (omega (arith, after, l))
      (omega (arith, fits, ap length all, phasing_heard earlier)) at.dx in
      let d = at.this in
      omega (arith, e, d)))
