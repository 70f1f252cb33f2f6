-- 48 phasing words as sent leave a lock on their word limits and roles, whatever came before.
use Rattle.std.proofs.Common.{◌≡◌, ℕ, zero, suc, ◌+◌, ◌-◌, ◌*◌, ◌/◌, ◌%◌, ◌<◌, ◌≤◌, ◌⊎◌, List, []}
use Rattle.std.proofs.Common.{◌∷◌, ◌++◌, length, take, drop, Bool, true, false, not, ◌||◌, eqb}
use Rattle.std.proofs.Common.{refl, sym, ap, ap₂, subst, ◌∙◌, inl, inr, arith, Some, None}
use Rattle.std.proofs.Common.{drop-drop, length-append}
use Rattle.std.proofs.Math.Seq.{drop-append-add}
use Rattle.std.proofs.lemmas.Bool.{cases_lt, cases_eq, both_ways, agree_below_at, ne_eqb}
use Rattle.nx_code.specs.Word.{number_of, weight, elements, elements_from, is_wrong, wrong_in}
use Rattle.nx_sync.specs.declared.step.Role.{Role}
use Rattle.nx_sync.specs.declared.step.Role.TheVariants.{Dx, Rx}
use Rattle.nx_sync.specs.declared.step.Change.{Change}
use Rattle.nx_sync.specs.declared.step.Change.TheVariants.{Locked, Ended, LostLock}
use Rattle.nx_code.specs.Table.{phasing_1, phasing_2}
use Rattle.nx_sync.specs.Words.{marked_words, losing_count, other_role, word_of_lock, first_role}
use Rattle.nx_sync.specs.Words.{role_of, wrong_until}
use Rattle.nx_sync.specs.private.Releases.{releases_as_ended, release}
use Rattle.nx_sync.specs.Locks.{pattern_elements, before_dx, before_rx, IsPattern, IsSecondPhasing1}
use Rattle.nx_sync.specs.Locks.{Lock, Past, Now, hunting, locked, IsLocked, IsNow}
use Rattle.nx_sync.specs.Laws.{phasing, LockedBeforeDx}
use Rattle.nx_code.proofs.lemmas.WordCounts.{wrong_in-add, wrong_in-all, wrong_in-none, wrong_in-le}
use Rattle.nx_sync.proofs.lemmas.words.Roles.{role_of-even}
use Rattle.nx_sync.proofs.lemmas.hunting.Patterns.{last_word-window}
use Rattle.nx_sync.proofs.lemmas.words.Computed.{IsSecondPhasing1-from, IsSecondPhasing1-to, at_none, ByTests}
use Rattle.nx_sync.proofs.lemmas.words.Computed.{by_end, by_loss, by_tests, released-from, holds-from}
use Rattle.nx_sync.proofs.lemmas.states.StateChanges.{standing_after}

-- the word that begins at place i of n phasing pairs
pub phase : ℕ → ℕ → ℕ
phase n i = number_of (take 7 (drop i (phasing n)))

-- whether a word of the phasing begins at this place of a pair
abbrev pub is_limit : ℕ → Bool
is_limit r = eqb r 0 || eqb r 7

-- what the seven bits from place i on are
pub record Phase (n i : ℕ) : Type 0 where
  pub wrong : is_wrong (phase n i) ≡ not (is_limit (i % 14))
  pub second : i % 14 ≡ 0 → phase n i ≡ phasing_2
  pub first : i % 14 ≡ 7 → phase n i ≡ phasing_1

first_pairs : (m r : ℕ) → r < 14 → is_wrong (phase (suc (suc m)) r) ≡ not (is_limit r)
unfolding phase phasing number_of weight elements elements_from
first_pairs m r h = agree_below_at (λ r. is_wrong (phase (suc (suc m)) r)) (λ r. not (is_limit r))
    14 r refl h

last_pair : (m r : ℕ) → r < 8 → is_wrong (phase (suc m) r) ≡ not (is_limit r)
unfolding phase phasing number_of weight elements elements_from
last_pair m r h = agree_below_at (λ r. is_wrong (phase (suc m) r)) (λ r. not (is_limit r)) 8 r refl
    h

phase-zero : (m : ℕ) → phase (suc m) 0 ≡ phasing_2
unfolding phase phasing number_of
phase-zero m = refl

phase-seven : (m : ℕ) → phase (suc m) 7 ≡ phasing_1
unfolding phase phasing number_of
phase-seven m = refl

-- one pair on
phase-next : (m j : ℕ) → phase (suc m) (14 + j) ≡ phase m j
unfolding phase phasing
phase-next m j = ap (λ xs. number_of (take 7 xs)) (sym (drop-drop j 14 (phasing (suc m))))

wrong-start : (m i : ℕ) → i < 14 → i + 7 ≤ 14 * suc m
    → is_wrong (phase (suc m) i) ≡ not (is_limit i)
wrong-start zero i h fits = last_pair zero i (omega arith)
wrong-start (suc m) i h fits = first_pairs m i h

-- what the seven bits at each place are
pub phase_at : (n i : ℕ) → i + 7 ≤ 14 * n → Phase n i
phase_at zero i fits = absurd (omega arith)
phase_at (suc m) i fits = elim (cases_lt i 14) [
  | inl low ↦
      let e : i % 14 ≡ i = omega arith in
      record {
        wrong = wrong-start m i low fits ∙ ap (λ r. not (is_limit r)) (sym e);
        second = λ z. let at : i ≡ 0 = omega arith in ap (phase (suc m)) at ∙ phase-zero m;
        first = λ s. let at : i ≡ 7 = omega arith in ap (phase (suc m)) at ∙ phase-seven m;
      }
  | inr high ↦
      let j : ℕ = i - 14 in
      let e : i ≡ 14 + j = omega arith in
      let r : j % 14 ≡ i % 14 = omega arith in
      let same : phase (suc m) i ≡ phase m j = ap (phase (suc m)) e ∙ phase-next m j in
      let rest = phase_at m j (omega arith) in
      record {
        wrong = ap is_wrong same ∙ (rest.wrong ∙ ap (λ r. not (is_limit r)) r);
        second = λ z. same ∙ rest.second (r ∙ z);
        first = λ s. same ∙ rest.first (r ∙ s);
      }
]

pub length-phasing : (n : ℕ) → length (phasing n) ≡ 14 * n
unfolding phasing
length-phasing zero = refl
length-phasing (suc n) = omega (arith, length-phasing n)

-- 24 pairs end with a pattern
ends_with_pattern : take pattern_elements (drop 308 (phasing 24)) ≡ before_dx
unfolding phasing before_dx elements elements_from
ends_with_pattern = refl

-- What a lock at t is, seen from the phasing that begins at the bit count n: word g of it is a DX
-- word, and begins with pair a of the phasing; either that is the first pair, or at most one word
-- of the lock comes before.
pub record IsAligned (first : Role) (n t : ℕ) : Type 0 where
  pub g : ℕ
  pub a : ℕ
  pub place : t + 7 * g ≡ n + 14 * a
  pub dx : role_of first g ≡ Dx
  pub early : (a ≡ 0) ⊎ (g ≤ 1)

-- a word that is a phasing signal is right, and one that is wrong is none
right_by : (w : ℕ) → (w ≡ phasing_1) ⊎ (w ≡ phasing_2) → is_wrong w ≡ false
unfolding weight elements elements_from
right_by w e = elim e [ inl p ↦ ap is_wrong p | inr p ↦ ap is_wrong p ]

-- where a limit is
limit-false : (r : ℕ) → not (is_limit r) ≡ false → (r ≡ 0) ⊎ (r ≡ 7)
limit-false r h = elim (cases_eq r 0) [
  | inl e ↦ inl e
  | inr n ↦ elim (cases_eq r 7) [
    | inl e ↦ inr e
    | inr m ↦ absurd (both_ways _ h (ap not (ap₂ ◌||◌ (ne_eqb r 0 n) (ne_eqb r 7 m))))
  ]
]

pub limit-true : (r : ℕ) → (r ≡ 0 → ⊥) → (r ≡ 7 → ⊥) → not (is_limit r) ≡ true
limit-true r n m = ap not (ap₂ ◌||◌ (ne_eqb r 0 n) (ne_eqb r 7 m))

pub limit-zero : (r : ℕ) → (r ≡ 0) ⊎ (r ≡ 7) → not (is_limit r) ≡ false
limit-zero r e = elim e [
  | inl z ↦ ap (λ r. not (is_limit r)) z
  | inr s ↦
      ap (λ r. not (is_limit r)) s
]

pub role_of-three_on : (g : ℕ) (first : Role) → role_of first g ≡ Rx → role_of first (g + 3) ≡ Dx
unfolding role_of
role_of-three_on g first h =
    let e : g + 3 ≡ suc (suc (suc g)) = omega arith in
    ap (role_of first) e ∙ ap (λ r. other_role (other_role (other_role r))) h

module _ (earlier : List Bool) where
  -- the bits that begin at place i of the phasing
  placed : (i : ℕ) → number_of (take 7 (drop (length earlier + i) (earlier ++ phasing 24)))
      ≡ phase 24 i
  unfolding phase
  placed i = ap (λ xs. number_of (take 7 xs)) (drop-append-add earlier (phasing 24) i)

  pub number_at_bit : (t k i : ℕ) → t + 7 * k ≡ length earlier + i
      → word_of_lock (earlier ++ phasing 24) t k ≡ phase 24 i
  unfolding word_of_lock
  number_at_bit t k i e = ap (λ j. number_of (take 7 (drop j (earlier ++ phasing 24)))) e ∙ placed i

  pub phasing_heard : length (earlier ++ phasing 24) ≡ length earlier + 336
  phasing_heard = length-append earlier (phasing 24)
      ∙ ap (λ n. length earlier + n) (length-phasing 24)

  -- a pattern is at the end
  pattern_at_end : IsPattern (earlier ++ phasing 24) (length earlier + 336)
  pattern_at_end =
      let e : length earlier + 336 - pattern_elements ≡ length earlier + 308 = omega arith in
      record {
        enough = omega arith;
        heard = omega (arith, phasing_heard);
        pattern = inl (ap (λ j. take pattern_elements (drop j (earlier ++ phasing 24))) e
            ∙ (ap (take pattern_elements) (drop-append-add earlier (phasing 24) 308)
            ∙ ends_with_pattern));
      }

  -- the word before a pattern is a phasing signal
  before_pattern : (t : ℕ) → IsPattern (earlier ++ phasing 24) t
      → (number_of (take 7 (drop (t - 7) (earlier ++ phasing 24))) ≡ phasing_1)
      ⊎ (number_of (take 7 (drop (t - 7) (earlier ++ phasing 24))) ≡ phasing_2)
  unfolding before_dx before_rx number_of elements elements_from
  before_pattern t here =
      let window = ap number_of
      (last_word-window (earlier ++ phasing 24) t here.enough here.heard) in
      elim here.pattern [
        | inl d ↦ inl (window ∙ ap (λ xs. number_of (drop 21 xs)) d)
        | inr r ↦ inr (window ∙ ap (λ xs. number_of (drop 21 xs)) r)
      ]

  first_role-first : (t : ℕ) → number_of (take 7 (drop (t - 7) (earlier ++ phasing 24))) ≡ phasing_1
      → first_role (earlier ++ phasing 24) t ≡ Dx
  unfolding first_role
  first_role-first t h = rw h refl

  first_role-second : (t : ℕ)
      → number_of (take 7 (drop (t - 7) (earlier ++ phasing 24))) ≡ phasing_2
      → first_role (earlier ++ phasing 24) t ≡ Rx
  unfolding first_role
  first_role-second t h = rw h refl

  -- a pattern that ends seven or more bits into the phasing is on its limits and roles
  pub inside_aligned : (t : ℕ) → IsPattern (earlier ++ phasing 24) t → length earlier + 7 ≤ t
      → IsAligned (first_role (earlier ++ phasing 24) t) (length earlier) t
  unfolding role_of
  inside_aligned t here h =
      let i : ℕ = t - 7 - length earlier in
      let e : length earlier + i ≡ t - 7 = omega arith in
      let within : t ≤ length earlier + 336 = omega (arith, here.heard, phasing_heard) in
      let w : number_of (take 7 (drop (t - 7) (earlier ++ phasing 24))) ≡ phase 24 i =
      ap (λ j. number_of (take 7 (drop j (earlier ++ phasing 24)))) (sym e) ∙ placed i in
      let kind = phase_at 24 i (omega arith) in
      let right : is_wrong (phase 24 i) ≡ false =
      ap is_wrong (sym w) ∙ right_by _ (before_pattern t here) in
      elim (limit-false (i % 14) (sym kind.wrong ∙ right)) [
        | inl z ↦ record {
          g = 1;
          a = (t + 7 - length earlier) / 14;
          place = omega arith;
          dx = ap other_role (first_role-second t (w ∙ kind.second z));
          early = inr (omega arith);
        }
        | inr s ↦ record {
          g = 0;
          a = (t - length earlier) / 14;
          place = omega arith;
          dx = first_role-first t (w ∙ kind.first s);
          early = inr (omega arith);
        }
      ]

  -- A lock that began before the phasing, or in its first seven bits, and that no word before the
  -- end has released: word k of it is the first that begins in the phasing, at place o.
  module _ (t k o : ℕ) (low : o < 7) (place : t + 7 * k ≡ length earlier + o)
      (quiet : (j : ℕ) → t + 7 * (j + 1) < length earlier + 336
      → release (earlier ++ phasing 24) t j ≡ None) where
    -- on other limits as many words are wrong as lose a lock
    not_between : 0 < o → ⊥
    not_between inside =
        let f : ℕ → ℕ = word_of_lock (earlier ++ phasing 24) t in
        let w : ℕ = k + (losing_count - 1) in
        let all : (j : ℕ) → j < losing_count → is_wrong (f (k + j)) ≡ true = λ j h.
        let i : ℕ = o + 7 * j in
        let kind = phase_at 24 i (omega arith) in
        ap is_wrong (number_at_bit t (k + j) i (omega arith))
        ∙ (kind.wrong ∙ limit-true (i % 14) (λ z. omega arith) (λ s. omega arith)) in
        let few = (at_none (first_role (earlier ++ phasing 24) t) f w (quiet w (omega arith))).1 in
        let b : ℕ = w + 1 - marked_words in
        let split : w + 1 - b ≡ k - b + losing_count = omega arith in
        let at : b + (k - b) ≡ k = omega arith in
        let count : wrong_in f b (w + 1 - b) ≡ wrong_in f b (k - b) + wrong_in f k losing_count =
        ap (wrong_in f b) split ∙ (wrong_in-add f b (k - b) losing_count
        ∙ ap (λ j. wrong_in f b (k - b) + wrong_in f j losing_count) at) in
        omega (arith, few, count, wrong_in-all f k losing_count all)

    -- with swapped roles the lock ends
    not_swapped : o ≡ 0 → role_of (first_role (earlier ++ phasing 24) t) k ≡ Rx → ⊥
    not_swapped zero_o swapped =
        let f : ℕ → ℕ = word_of_lock (earlier ++ phasing 24) t in
        let first : Role = first_role (earlier ++ phasing 24) t in
        let e : k + 6 - 3 ≡ k + 3 = omega arith in
        let d : k + 3 - 2 ≡ k + 1 = omega arith in
        let seven = phase_at 24 7 (omega arith) in
        let twenty_one = phase_at 24 21 (omega arith) in
        let end : IsSecondPhasing1 first f (k + 3) = record {
          two = omega arith;
          dx = role_of-three_on k first swapped;
          this = number_at_bit t (k + 3) 21 (omega arith) ∙ twenty_one.first refl;
          before = ap f d ∙ (number_at_bit t (k + 1) 7 (omega arith) ∙ seven.first refl);
        } in
        let ends = IsSecondPhasing1-to first f (k + 6) (omega arith)
        (subst (IsSecondPhasing1 first f) (sym e) end) in
        both_ways _ (at_none first f (k + 6) (quiet (k + 6) (omega arith))).0 ends

    role_or_swapped : o ≡ 0 → (role : Role)
        → role_of (first_role (earlier ++ phasing 24) t) k ≡ role
        → IsAligned (first_role (earlier ++ phasing 24) t) (length earlier) t
    role_or_swapped zero_o Dx e =
        record { g = k; a = 0; place = omega arith; dx = e; early = inl refl }
    role_or_swapped zero_o Rx e = absurd (not_swapped zero_o e)

    outside_aligned : IsAligned (first_role (earlier ++ phasing 24) t) (length earlier) t
    outside_aligned = elim (cases_lt 0 o) [
      | inl inside ↦ absurd (not_between inside)
      | inr zero_o ↦ role_or_swapped (omega arith)
          (role_of (first_role (earlier ++ phasing 24) t) k) refl
    ]

  -- so each lock that no word before the end has released is aligned
  aligned : (t : ℕ) → IsPattern (earlier ++ phasing 24) t
      → ((j : ℕ) → t + 7 * (j + 1) < length earlier + 336
      → release (earlier ++ phasing 24) t j ≡ None)
      → IsAligned (first_role (earlier ++ phasing 24) t) (length earlier) t
  aligned t here quiet = elim (cases_lt t (length earlier + 7)) [
    | inr late ↦ inside_aligned t here late
    | inl early ↦
        let k : ℕ = (length earlier + 6 - t) / 7 in
        outside_aligned t k (t + 7 * k - length earlier) (omega arith) (omega arith) quiet
  ]

  -- a lock that stands at the end is on the phasing's limits and roles
  stands_right : (locks : List Lock) (p t : ℕ) → IsLocked (earlier ++ phasing 24) locks p t
      → LockedBeforeDx (earlier ++ phasing 24)
  stands_right locks p t now =
      let x = aligned t now.found.here
      (λ j h. holds-from (earlier ++ phasing 24) t now.holds j
      (omega (arith, phasing_heard))) in
      let within = now.found.here.heard in
      let half : ℕ = 24 - x.a in
      let low : x.a ≤ 24 = elim x.early [
        | inl z ↦ omega arith
        | inr one ↦
            omega (arith, x.place, phasing_heard)
      ] in
      record {
        locks = locks;
        p = p;
        t = t;
        stands = now;
        whole = x.g + 2 * half;
        limit = omega (arith, phasing_heard, x.place);
        dx = role_of-even (first_role (earlier ++ phasing 24) t) x.g half ∙ x.dx;
      }

  -- the last word releases no lock
  module _ (t w : ℕ) (x : IsAligned (first_role (earlier ++ phasing 24) t) (length earlier) t)
      (last : t + 7 * (w + 1) ≡ length earlier + 336) where
    few_wrong : wrong_until (word_of_lock (earlier ++ phasing 24) t) w < losing_count
    few_wrong =
        let f : ℕ → ℕ = word_of_lock (earlier ++ phasing 24) t in
        let i : ℕ = w + 1 - marked_words in
        let right : (j : ℕ) → x.g ≤ j → j < w + 1 → is_wrong (f j) ≡ false = λ j from below.
        let c : ℕ = 14 * x.a + 7 * (j - x.g) in
        let at : t + 7 * j ≡ length earlier + c = omega (arith, x.place) in
        let kind = phase_at 24 c (omega arith) in
        ap is_wrong (number_at_bit t j c at)
        ∙ (kind.wrong ∙ limit-zero (c % 14)
        (elim (cases_eq (c % 14) 0) [ inl z ↦ inl z | inr n ↦ inr (omega arith) ])) in
        elim (cases_lt i x.g) [
          | inl before ↦
              let at : i + (x.g - i) ≡ x.g = omega arith in
              let within : x.g ≤ w + 1 =
              elim x.early [ inl z ↦ omega (arith, x.place) | inr one ↦ omega arith ] in
              let split : w + 1 - i ≡ x.g - i + (w + 1 - x.g) = omega arith in
              let count : wrong_in f i (w + 1 - i)
              ≡ wrong_in f i (x.g - i) + wrong_in f x.g (w + 1 - x.g) =
              ap (wrong_in f i) split ∙ (wrong_in-add f i (x.g - i) (w + 1 - x.g)
              ∙ ap (λ j. wrong_in f i (x.g - i) + wrong_in f j (w + 1 - x.g)) at) in
              let none : wrong_in f x.g (w + 1 - x.g) ≡ 0 =
              wrong_in-none f x.g (w + 1 - x.g)
              (λ j h. right (x.g + j) (omega arith) (omega arith)) in
              let short : x.g - i < losing_count =
              elim x.early [ inl z ↦ omega (arith, x.place) | inr one ↦ omega arith ] in
              omega (arith, count, none, wrong_in-le f i (x.g - i))
          | inr after ↦
              let none : wrong_in f i (w + 1 - i) ≡ 0 =
              wrong_in-none f i (w + 1 - i)
              (λ j h. right (i + j) (omega arith) (omega arith)) in
              omega (arith, none)
        ]

    no_end : releases_as_ended (first_role (earlier ++ phasing 24) t)
        (word_of_lock (earlier ++ phasing 24) t) w ≡ true → ⊥
    no_end h =
        let end = IsSecondPhasing1-from (first_role (earlier ++ phasing 24) t)
        (word_of_lock (earlier ++ phasing 24) t) w h in
        let kind = phase_at 24 308 (omega arith) in
        let five = end.0 in
        let e : word_of_lock (earlier ++ phasing 24) t (w - 3) ≡ phasing_2 =
        number_at_bit t (w - 3) 308 (omega arith) ∙ kind.second refl in
        let one : word_of_lock (earlier ++ phasing 24) t (w - 3) ≡ phasing_1 = end.1.this in
        omega (arith, e, one)

    no_change : (how : Change)
        → ByTests (first_role (earlier ++ phasing 24) t) (word_of_lock (earlier ++ phasing 24) t) w
        (Some how) → ⊥
    no_change Locked h = elim h [ ]
    no_change Ended (by_end e) = no_end e
    no_change LostLock (by_loss e many) = omega (arith, many, few_wrong)

    not_released : (how : Change) → release (earlier ++ phasing 24) t w ≡ Some how → ⊥
    not_released how h =
        no_change how (subst (ByTests (first_role (earlier ++ phasing 24) t)
        (word_of_lock (earlier ++ phasing 24) t) w) h
        (by_tests (first_role (earlier ++ phasing 24) t)
        (word_of_lock (earlier ++ phasing 24) t) w))

  -- hunting at the end would mean a release by the last word
  not_hunting : (locks : List Lock) (p : ℕ) → length earlier + 336 ≤ p
      → Past (earlier ++ phasing 24) locks p → ⊥
  unfolding Past
  not_hunting [] p late past = omega arith
  not_hunting (lock ∷ older) p late past =
      let r = released-from (earlier ++ phasing 24) lock.at lock.last lock.how past.0.released in
      let last : lock.at + 7 * (lock.last + 1) ≡ length earlier + 336 =
      omega (arith, r.heard, past.0.next, phasing_heard) in
      not_released lock.at lock.last
      (aligned lock.at past.0.found.here (λ j h. r.least j (omega arith)))
      last lock.how r.here

  after_phasing : (locks : List Lock) (now : Now) → IsNow (earlier ++ phasing 24) locks now
      → LockedBeforeDx (earlier ++ phasing 24)
  after_phasing locks (locked p t) n = stands_right locks p t n
  after_phasing locks (hunting p) n = elim (cases_lt p (length earlier + 336)) [
    | inl before ↦ absurd (n.none (length earlier + 336) before pattern_at_end)
    | inr late ↦ absurd (not_hunting locks p late n.past)
  ]

  -- whatever came before
  pub phasing_locks : LockedBeforeDx (earlier ++ phasing 24)
  phasing_locks =
      let a = standing_after (earlier ++ phasing 24) in
      after_phasing a.locks a.now a.stands
