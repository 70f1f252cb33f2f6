-- The lock that 48 phasing words leave holds through the words behind them.
use Rattle.std.proofs.Common.{◌≡◌, ℕ, zero, suc, ◌+◌, ◌-◌, ◌*◌, ◌/◌, ◌<◌, ◌≤◌, Bool, false, List}
use Rattle.std.proofs.Common.{[], ◌∷◌, ◌++◌, length, take, drop, get_or, refl, sym, ap, ◌∙◌}
use Rattle.std.proofs.Common.{subst, arith, inl, inr, append_assoc}
use Rattle.std.proofs.lemmas.Bool.{cases_lt}
use Rattle.std.proofs.lemmas.List.{length-append, take-append-drop, take_at, length-take-le}
use Rattle.std.proofs.lemmas.List.Concat.{flat_map-append}
use Rattle.std.proofs.Math.Seq.{drop-append-add}
use Rattle.nx_code.specs.Table.{phasing_1, phasing_2}
use Rattle.nx_code.specs.Word.{elements, elements_from, weight, number_of, word_from, is_wrong}
use Rattle.nx_code.specs.Word.{wrong_in}
use Rattle.nx_fec.specs.emissions.Aligned.{word_in}
use Rattle.nx_fec.specs.emissions.Emission.{bits_of, AreWords}
use Rattle.nx_fec.proofs.lemmas.emissions.Aligned.{get_or-words_of}
use Rattle.nx_fec.proofs.lemmas.emissions.RoundTrip.{length-bits_of, words_of-bits_of}
use Rattle.nx_code.proofs.lemmas.WordCounts.{wrong_in-same}
use Rattle.nx_sync.specs.Words.{word_of_lock, first_role, role_of, other_role, wrong_until}
use Rattle.nx_sync.specs.Words.{losing_count}
use Rattle.nx_sync.specs.Locks.{IsSecondPhasing1, Lock, IsLocked}
use Rattle.nx_sync.specs.Laws.{LockedBeforeDx, phasing}
use Rattle.nx_sync.specs.declared.step.Role.{Role}
use Rattle.nx_sync.specs.declared.step.Role.TheVariants.{Dx, Rx}
use Rattle.nx_sync.proofs.lemmas.words.Roles.{role_of-even}
use Rattle.nx_code.proofs.lemmas.WordCounts.{wrong_in-add, wrong_in-le, wrong_in-none}
use Rattle.nx_sync.proofs.lemmas.states.KeptPast.{first_role-more}
use Rattle.nx_sync.proofs.lemmas.hunting.Phasing.{phasing_locks, phasing_heard}
use Rattle.nx_sync.proofs.lemmas.words.Releases.{stands_longer}

-- the word of a place in a list of words
abbrev pub word_of : List ℕ → ℕ → ℕ
word_of heard i = get_or heard i 0

-- Words by which a lock is kept: 48 phasing words as they are sent, and then words of which, with
-- those, any 64 in a row have too few wrong ones to lose it, and no two DX words in a row are
-- phasing signal 1 before the last words.
pub record KeepsLock (heard : List ℕ) : Type 0 where
  pub words : AreWords heard
  pub long : 48 ≤ length heard
  pub second : (j : ℕ) → j < 24 → word_of heard (2 * j) ≡ phasing_2
  pub first : (j : ℕ) → j < 24 → word_of heard (2 * j + 1) ≡ phasing_1
  pub few : (a n : ℕ) → n ≤ 64 → a + n ≤ length heard → wrong_in (word_of heard) a n < losing_count
  pub apart : (a : ℕ) → 2 * a + 5 < length heard → word_of heard (2 * a) ≡ phasing_1
      → word_of heard (2 * a + 2) ≡ phasing_1 → ⊥

-- pairs of phasing words have the bits of phasing
phasing_bits : (n : ℕ) (heard : List ℕ) → 2 * n ≤ length heard
    → ((j : ℕ) → j < n → word_of heard (2 * j) ≡ phasing_2)
    → ((j : ℕ) → j < n → word_of heard (2 * j + 1) ≡ phasing_1)
    → bits_of (take (2 * n) heard) ≡ phasing n
unfolding bits_of phasing elements elements_from
phasing_bits zero heard long second first = refl
phasing_bits (suc n) [] long second first = absurd (omega arith)
phasing_bits (suc n) (a ∷ []) long second first = absurd (omega arith)
phasing_bits (suc n) (a ∷ (b ∷ heard)) long second first =
    let two : 2 * suc n ≡ suc (suc (2 * n)) = omega arith in
    let at : (j : ℕ) → 2 * (j + 1) ≡ suc (suc (2 * j)) = λ j. omega arith in
    let next : (j : ℕ) → 2 * (j + 1) + 1 ≡ suc (suc (2 * j + 1)) = λ j. omega arith in
    let p2 : a ≡ phasing_2 = second 0 (omega arith) in
    let p1 : b ≡ phasing_1 = first 0 (omega arith) in
    ap (λ m. bits_of (take m (a ∷ (b ∷ heard)))) two
    ∙ ap (λ x. elements x ++ (elements b ++ bits_of (take (2 * n) heard))) p2
    ∙ ap (λ x. elements phasing_2 ++ (elements x ++ bits_of (take (2 * n) heard))) p1
    ∙ ap (λ l. elements phasing_2 ++ (elements phasing_1 ++ l))
    (phasing_bits n heard (omega arith)
    (λ j lt. ap (word_of (a ∷ (b ∷ heard))) (sym (at j)) ∙ second (j + 1) (omega arith))
    (λ j lt. ap (word_of (a ∷ (b ∷ heard))) (sym (next j)) ∙ first (j + 1) (omega arith)))

bits_of-append : (xs ys : List ℕ) → bits_of (xs ++ ys) ≡ bits_of xs ++ bits_of ys
unfolding bits_of
bits_of-append xs ys = flat_map-append elements xs ys

-- the words in the bits of words
word_from-bits_of : (gap : List Bool) (heard : List ℕ) (i : ℕ) → AreWords heard → i < length heard
    → word_from (gap ++ bits_of heard) (length gap + 7 * i) ≡ word_of heard i
unfolding word_in
word_from-bits_of gap heard i words lt =
    let n = length-bits_of heard in
    ap (λ l. number_of (take 7 l)) (drop-append-add gap (bits_of heard) (7 * i))
    ∙ sym (get_or-words_of (bits_of heard) i (omega arith))
    ∙ ap (λ ws. get_or ws i 0) (words_of-bits_of heard words)

-- the phasing signals have the right weight
pub right_2 : is_wrong phasing_2 ≡ false
unfolding weight elements elements_from
right_2 = refl

pub right_1 : is_wrong phasing_1 ≡ false
unfolding weight elements elements_from
right_1 = refl

phasing_right : (heard : List ℕ) → KeepsLock heard → (j : ℕ) → j < 48
    → is_wrong (word_of heard j) ≡ false
phasing_right heard k j lt =
    elim (cases_lt (j - 2 * (j / 2)) 1) [
      | inl even ↦ let e : 2 * (j / 2) ≡ j = omega arith in
          ap (λ i. is_wrong (word_of heard i)) (sym e)
          ∙ ap is_wrong (k.second (j / 2) (omega arith)) ∙ right_2
      | inr odd ↦ let e : 2 * (j / 2) + 1 ≡ j = omega arith in
          ap (λ i. is_wrong (word_of heard i)) (sym e)
          ∙ ap is_wrong (k.first (j / 2) (omega arith)) ∙ right_1
    ]

pub role_of-next : (first : Role) (k : ℕ) → role_of first (k + 1) ≡ other_role (role_of first k)
unfolding role_of
role_of-next first k = let e : k + 1 ≡ suc k = omega arith in ap (role_of first) e

Dx≢Rx : Dx ≡ Rx → ⊥
Dx≢Rx e = cc

-- DX words are an even number of words apart
even_apart : (first : Role) (w k : ℕ) → role_of first w ≡ Dx → role_of first k ≡ Dx → w ≤ k + 3
    → k + 2 ≡ w + 2 * ((k + 3 - w) / 2)
even_apart first w k dw dk le =
    let q : ℕ = (k + 3 - w) / 2 in
    elim (cases_lt (k + 3 - w - 2 * q) 1) [
      | inl even ↦
          let e : k + 2 + 1 ≡ w + 2 * q = omega arith in
          let rx : role_of first (k + 2 + 1) ≡ Rx = role_of-next first (k + 2)
          ∙ ap other_role (role_of-even first k 1 ∙ dk) in
          absurd (Dx≢Rx (sym (ap (role_of first) e ∙ role_of-even first w q ∙ dw) ∙ rx))
      | inr odd ↦ omega arith
    ]

-- The lock that the phasing leaves stands after all the words, and its words from its word `whole`
-- on are those from the 49th on.
pub record LockedThrough (gap : List Bool) (heard : List ℕ) : Type 0 where
  pub locks : List Lock
  pub p : ℕ
  pub t : ℕ
  pub begins : take 336 (bits_of heard) ≡ phasing 24
  pub before : IsLocked (gap ++ phasing 24) locks p t
  pub stands : IsLocked (gap ++ bits_of heard) locks p t
  pub whole : ℕ
  pub limit : length gap + 336 ≡ t + 7 * whole
  pub dx : role_of (first_role (gap ++ bits_of heard) t) whole ≡ Dx
  pub same : (j i : ℕ) → j + 48 ≡ i + whole → i < length heard
      → word_of_lock (gap ++ bits_of heard) t j ≡ word_of heard i

module _ (gap : List Bool) (heard : List ℕ) (k : KeepsLock heard)
    (l : LockedBeforeDx (gap ++ phasing 24)) where
  abbrev early : List Bool
  early = gap ++ phasing 24

  abbrev more : List Bool
  more = bits_of (drop 48 heard)

  together : early ++ more ≡ gap ++ bits_of heard
  together =
      append_assoc gap (phasing 24) more
      ∙ ap (λ b. gap ++ (b ++ more)) (sym (phasing_bits 24 heard k.long k.second k.first))
      ∙ ap (λ b. gap ++ b) (sym (bits_of-append (take 48 heard) (drop 48 heard))
      ∙ ap bits_of (take-append-drop 48 heard))

  begins_is : take 336 (bits_of heard) ≡ phasing 24
  begins_is =
      let words : length (bits_of (take 48 heard)) ≡ 336 = length-bits_of (take 48 heard)
      ∙ ap (λ n. 7 * n) (length-take-le 48 heard k.long) in
      ap (λ b. take 336 b) (ap bits_of (sym (take-append-drop 48 heard))
      ∙ bits_of-append (take 48 heard) (drop 48 heard))
      ∙ take_at (bits_of (take 48 heard)) (bits_of (drop 48 heard)) 336 words
      ∙ phasing_bits 24 heard k.long k.second k.first

  limit_is : length gap + 336 ≡ l.t + 7 * l.whole
  limit_is = sym (phasing_heard gap) ∙ l.limit

  heard_bits : length (early ++ more) ≡ length gap + 7 * length heard
  heard_bits =
      ap length together ∙ length-append gap (bits_of heard)
      ∙ ap (λ n. length gap + n) (length-bits_of heard)

  abbrev lock_word : ℕ → ℕ
  lock_word = word_of_lock (early ++ more) l.t

  lock_word_is : (j i : ℕ) → j + 48 ≡ i + l.whole → i < length heard → lock_word j ≡ word_of heard i
  unfolding word_of_lock
  lock_word_is j i e lt =
      let at : l.t + 7 * j ≡ length gap + 7 * i = omega (arith, limit_is) in
      ap (λ b. word_from b (l.t + 7 * j)) together ∙ ap (word_from (gap ++ bits_of heard)) at
      ∙ word_from-bits_of gap heard i k.words lt

  role_is : first_role (early ++ more) l.t ≡ first_role early l.t
  role_is = first_role-more early more l.t l.stands.found.here.enough l.stands.found.here.heard

  few_wrong : (j : ℕ) → length early < l.t + 7 * (j + 1)
      → l.t + 7 * (j + 1) ≤ length (early ++ more)
      → wrong_until lock_word j < losing_count
  few_wrong j new in' =
      let i : ℕ = j + 1 - 64 in
      let n : ℕ = j + 1 - i in
      let late : l.whole ≤ j = omega (arith, l.limit) in
      let short : j + 48 < length heard + l.whole = omega (arith, limit_is, heard_bits) in
      elim (cases_lt (i + 48) l.whole) [
        | inl reaches ↦
            let front : ℕ = l.whole - 48 - i in
            let back : ℕ = j + 1 - l.whole in
            let parts : n ≡ front + (48 + back) = omega arith in
            let count : wrong_in lock_word i n
            ≡ wrong_in lock_word i front + (wrong_in lock_word (i + front) 48 + wrong_in
            lock_word (i + front + 48) back) =
            ap (wrong_in lock_word i) parts ∙ wrong_in-add lock_word i front (48 + back)
            ∙ ap (λ x. wrong_in lock_word i front + x)
            (wrong_in-add lock_word (i + front) 48 back) in
            let none : wrong_in lock_word (i + front) 48 ≡ 0 =
            wrong_in-none lock_word (i + front) 48
            (λ h lt. ap is_wrong (lock_word_is (i + front + h) h (omega arith)
            (omega (arith, k.long))) ∙ phasing_right heard k h lt) in
            omega (
              arith,
              count,
              none,
              wrong_in-le lock_word i front,
              wrong_in-le lock_word
                  (i + front + 48) back,
            )
        | inr within ↦
            let a : ℕ = i + 48 - l.whole in
            let same : wrong_in lock_word i n ≡ wrong_in (word_of heard) a n =
            wrong_in-same lock_word (word_of heard) i a n
            (λ h lt. lock_word_is (i + h) (a + h) (omega arith) (omega arith)) in
            subst (λ x. x < losing_count) (sym same) (k.few a n (omega arith) (omega arith))
      ]

  no_end : (j : ℕ) → length early < l.t + 7 * (j + 4) → l.t + 7 * (j + 4) ≤ length (early ++ more)
      → IsSecondPhasing1 (first_role (early ++ more) l.t) lock_word j → ⊥
  no_end j new in' s =
      let q : ℕ = (j + 3 - l.whole) / 2 in
      let near : l.whole ≤ j + 3 = omega (arith, l.limit) in
      let short : j + 52 ≤ length heard + l.whole = omega (arith, limit_is, heard_bits) in
      let even : j + 2 ≡ l.whole + 2 * q =
      even_apart (first_role (early ++ more) l.t) l.whole j
      (ap (λ r. role_of r l.whole) role_is ∙ l.dx) s.dx near in
      let two = s.two in
      let here : 2 * (22 + q) + 2 ≡ 46 + 2 * q = omega arith in
      let there : 2 * (22 + q) ≡ 44 + 2 * q = omega arith in
      k.apart (22 + q) (omega arith)
      (ap (word_of heard) there
      ∙ sym (lock_word_is (j - 2) (44 + 2 * q) (omega arith) (omega arith)) ∙ s.before)
      (ap (word_of heard) here ∙ sym (lock_word_is j (46 + 2 * q) (omega arith) (omega arith))
      ∙ s.this)

  through : IsLocked (early ++ more) l.locks l.p l.t
  through = stands_longer early more l.locks l.p l.t l.stands few_wrong no_end

  pub stands_through : IsLocked (gap ++ bits_of heard) l.locks l.p l.t
  stands_through = subst (λ b. IsLocked b l.locks l.p l.t) together through

  pub dx_through : role_of (first_role (gap ++ bits_of heard) l.t) l.whole ≡ Dx
  dx_through =
      subst (λ b. role_of (first_role b l.t) l.whole ≡ Dx) together
      (ap (λ r. role_of r l.whole) role_is ∙ l.dx)

  pub same_through : (j i : ℕ) → j + 48 ≡ i + l.whole → i < length heard
      → word_of_lock (gap ++ bits_of heard) l.t j ≡ word_of heard i
  same_through j i e lt = ap (λ b. word_of_lock b l.t j) (sym together) ∙ lock_word_is j i e lt

  pub lock_goes_through : LockedThrough gap heard
  lock_goes_through = record {
    locks = l.locks;
    p = l.p;
    t = l.t;
    begins = begins_is;
    before = l.stands;
    stands = stands_through;
    whole = l.whole;
    limit = limit_is;
    dx = dx_through;
    same = same_through;
  }

-- whatever bits came before
pub locked_through : (gap : List Bool) (heard : List ℕ) → KeepsLock heard → LockedThrough gap heard
locked_through gap heard k = lock_goes_through gap heard k (phasing_locks gap)
