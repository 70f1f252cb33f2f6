-- A set of letters kept as one flag for each of A, B, C and so on.
use Rattle.std.proofs.Common.{◌≡◌, ℕ, ◌+◌, ◌-◌, ◌<◌, Bool, true, false, not, ◌&&◌, ◌||◌, List, []}
use Rattle.std.proofs.Common.{◌∷◌, length, get_or, replicate, eqb, zero, suc, refl, sym, ap, ◌∙◌}
use Rattle.std.proofs.Common.{subst, inl, inr, arith}
use Rattle.std.proofs.Math.ListN.{set, length-set}
use Rattle.std.proofs.lemmas.Bool.{true≢false, cases_lt, cases_eq, ne_eqb, eq-eqb, or_left}
use Rattle.std.proofs.lemmas.List.{get_or-set_same, get_or-set_other}
use Rattle.std.specs.Ordering.{nat_cmp}
use Rattle.std.specs.Cmp.{nat_cmp_total, unsigned_tied}
use Rattle.std.specs.FinSet as finite
use Rattle.nx_code.specs.Reading.{IsCapital}
use Rattle.nx_memory.specs.private.LetterFlags.{letters_from, letters_of, flags_from, flags_of}
use Rattle.nx_memory.specs.Letters.{HasLettersOnly}
use Rattle.nx_memory.specs.Selection.{is_vital, IsWithoutVital}

-- the empty set of numbers has none
pub contains-none : (q : ℕ) → finite.contains (finite.empty {R = nat_cmp}) q ≡ false
contains-none q = finite.contains-empty nat_cmp q

-- whether a set of numbers has a number, after one is added
pub contains-insert : (s : finite.FinSet nat_cmp) (k q : ℕ)
    → finite.contains (finite.insert s k) q ≡ (eqb q k || finite.contains s q)
contains-insert s k q = finite.contains-insert nat_cmp_total s k q
    ∙ ap (λ b. b || finite.contains s q) (unsigned_tied q k)

-- the same after one is taken out
pub contains-remove : (s : finite.FinSet nat_cmp) (k q : ℕ)
    → finite.contains (finite.remove s k) q ≡ (not (eqb q k) && finite.contains s q)
contains-remove s k q = finite.contains-remove nat_cmp_total s k q
    ∙ ap (λ b. not b && finite.contains s q) (unsigned_tied q k)

-- no letter below the first is in the set
letters_below : (first : ℕ) (flags : List Bool) (q : ℕ) → q < first
    → finite.contains (letters_from first flags) q ≡ false
letters_below first [] q below = finite.contains-empty nat_cmp q
letters_below first (true ∷ flags) q below =
    contains-insert (letters_from (first + 1) flags) first q
    ∙ ap (λ b. b || finite.contains (letters_from (first + 1) flags) q)
    (ne_eqb q first (λ e. omega arith))
    ∙ letters_below (first + 1) flags q (omega arith)
letters_below first (false ∷ flags) q below = letters_below (first + 1) flags q (omega arith)

-- each further letter is in the set where its flag is set
letters_at : (first : ℕ) (flags : List Bool) (i q : ℕ) → q ≡ first + i
    → finite.contains (letters_from first flags) q ≡ get_or flags i false
letters_at first [] i q at = finite.contains-empty nat_cmp q
letters_at first (true ∷ flags) zero q at =
    contains-insert (letters_from (first + 1) flags) first q
    ∙ ap (λ b. b || finite.contains (letters_from (first + 1) flags) q)
    (eq-eqb q first (omega arith))
letters_at first (true ∷ flags) (suc i) q at =
    contains-insert (letters_from (first + 1) flags) first q
    ∙ ap (λ b. b || finite.contains (letters_from (first + 1) flags) q)
    (ne_eqb q first (λ e. omega arith))
    ∙ letters_at (first + 1) flags i q (omega arith)
letters_at first (false ∷ flags) zero q at = letters_below (first + 1) flags q (omega arith)
letters_at first (false ∷ flags) (suc i) q at = letters_at (first + 1) flags i q (omega arith)

-- a letter is in the set where its flag is set
pub contains-letters_of : (flags : List Bool) (i letter : ℕ) → i + 65 ≡ letter
    → finite.contains (letters_of flags) letter ≡ get_or flags i false
unfolding letters_of
contains-letters_of flags i letter at = letters_at 65 flags i letter (omega arith)

-- what a byte below the letters is not
not_below : (flags : List Bool) (q : ℕ) → q < 65 → finite.contains (letters_of flags) q ≡ false
unfolding letters_of
not_below flags q below = letters_below 65 flags q below

-- the flags are told from the letters again
flags_from-same : (first : ℕ) (flags : List Bool) (letters : finite.FinSet nat_cmp)
    → ((i q : ℕ) → q ≡ first + i → finite.contains letters q ≡ get_or flags i false)
    → flags_from first (length flags) letters ≡ flags
flags_from-same first [] letters same = refl
flags_from-same first (flag ∷ flags) letters same =
    ap (λ (it : Bool). it ∷ flags_from (first + 1) (length flags) letters)
    (same 0 first (omega arith))
    ∙ ap (λ (rest : List Bool). flag ∷ rest)
    (flags_from-same (first + 1) flags letters (λ i q at. same (suc i) q (omega arith)))

pub flags_of-letters_of : (flags : List Bool) → length flags ≡ 26
    → flags_of (letters_of flags) ≡ flags
unfolding letters_of flags_of
flags_of-letters_of flags size =
    ap (λ (n : ℕ). flags_from 65 n (letters_from 65 flags)) (sym size)
    ∙ flags_from-same 65 flags (letters_from 65 flags) (λ i q at. letters_at 65 flags i q at)

-- setting a flag adds its letter
pub letters_of-set_true : (flags : List Bool) (i letter : ℕ) → i + 65 ≡ letter → i < length flags
    → letters_of (set flags i true) ≡ finite.insert (letters_of flags) letter
letters_of-set_true flags i letter at within =
    finite.same_set nat_cmp_total finite.nat_cmp-IsAntisymmetric _ _ (λ q. same q)
  where
    same : (q : ℕ) → finite.contains (letters_of (set flags i true)) q
        ≡ finite.contains (finite.insert (letters_of flags) letter) q
    same q = elim (cases_lt q 65) [
      | inl below ↦
          not_below (set flags i true) q below
          ∙ sym (contains-insert (letters_of flags) letter q
          ∙ rw (ne_eqb q letter (λ e. omega arith), not_below flags q below))
      | inr above ↦ elim (cases_eq q letter) [
        | inl here ↦
            contains-letters_of (set flags i true) i q (omega arith)
            ∙ get_or-set_same flags i true false within
            ∙ sym (contains-insert (letters_of flags) letter q ∙ rw (eq-eqb q letter here))
        | inr there ↦
            contains-letters_of (set flags i true) (q - 65) q (omega arith)
            ∙ get_or-set_other flags i (q - 65) true false (λ e. there (omega arith))
            ∙ sym (contains-letters_of flags (q - 65) q (omega arith))
            ∙ sym (contains-insert (letters_of flags) letter q ∙ rw (ne_eqb q letter there))
      ]
    ]

-- clearing a flag takes its letter out
pub letters_of-set_false : (flags : List Bool) (i letter : ℕ) → i + 65 ≡ letter → i < length flags
    → letters_of (set flags i false) ≡ finite.remove (letters_of flags) letter
letters_of-set_false flags i letter at within =
    finite.same_set nat_cmp_total finite.nat_cmp-IsAntisymmetric _ _ (λ q. same q)
  where
    same : (q : ℕ) → finite.contains (letters_of (set flags i false)) q
        ≡ finite.contains (finite.remove (letters_of flags) letter) q
    same q = elim (cases_lt q 65) [
      | inl below ↦
          not_below (set flags i false) q below
          ∙ sym (contains-remove (letters_of flags) letter q
          ∙ rw (ne_eqb q letter (λ e. omega arith), not_below flags q below))
      | inr above ↦ elim (cases_eq q letter) [
        | inl here ↦
            contains-letters_of (set flags i false) i q (omega arith)
            ∙ get_or-set_same flags i false false within
            ∙ sym (contains-remove (letters_of flags) letter q ∙ rw (eq-eqb q letter here))
        | inr there ↦
            contains-letters_of (set flags i false) (q - 65) q (omega arith)
            ∙ get_or-set_other flags i (q - 65) false false (λ e. there (omega arith))
            ∙ sym (contains-letters_of flags (q - 65) q (omega arith))
            ∙ sym (contains-remove (letters_of flags) letter q ∙ rw (ne_eqb q letter there))
      ]
    ]

pub flags_of-set : (flags : List Bool) (i : ℕ) (flag : Bool) → length flags ≡ 26
    → flags_of (letters_of (set flags i flag)) ≡ set flags i flag
flags_of-set flags i flag size =
    flags_of-letters_of (set flags i flag) (length-set flags i flag ∙ size)

-- with no flag set there is no letter
none_from : (first n : ℕ) → letters_from first (replicate n false) ≡ finite.empty
none_from first zero = refl
none_from first (suc n) = none_from (first + 1) n

pub letters_of-none : letters_of (replicate 26 false) ≡ finite.empty
unfolding letters_of
letters_of-none = none_from 65 26

-- to add what is there, and to take out what isn't, changes nothing
pub insert_again : (s : finite.FinSet nat_cmp) (k : ℕ) → finite.contains s k ≡ true
    → finite.insert s k ≡ s
insert_again s k there = finite.same_set nat_cmp_total finite.nat_cmp-IsAntisymmetric _ _
    (λ q. same q)
  where
    same : (q : ℕ) → finite.contains (finite.insert s k) q ≡ finite.contains s q
    same q = elim (cases_eq q k) [
      | inl here ↦ contains-insert s k q ∙ or_left (eqb q k) (finite.contains s q) (eq-eqb q k here)
          ∙ sym (ap (finite.contains s) here ∙ there)
      | inr other ↦ contains-insert s k q ∙ ap (λ b. b || finite.contains s q) (ne_eqb q k other)
    ]

pub remove_again : (s : finite.FinSet nat_cmp) (k : ℕ) → finite.contains s k ≡ false
    → finite.remove s k ≡ s
remove_again s k absent =
    finite.same_set nat_cmp_total finite.nat_cmp-IsAntisymmetric _ _ (λ q. same q)
  where
    same : (q : ℕ) → finite.contains (finite.remove s k) q ≡ finite.contains s q
    same q = elim (cases_eq q k) [
      | inl here ↦ contains-remove s k q ∙ ap (λ b. not b && finite.contains s q) (eq-eqb q k here)
          ∙ sym (ap (finite.contains s) here ∙ absent)
      | inr other ↦ contains-remove s k q
          ∙ ap (λ b. not b && finite.contains s q) (ne_eqb q k other)
    ]

-- one more letter leaves letters only, and one more subject that isn't vital no vital one
pub letters_only-insert : (letters : finite.FinSet nat_cmp) (k : ℕ) → HasLettersOnly letters
    → IsCapital k → HasLettersOnly (finite.insert letters k)
letters_only-insert letters k only letter q there = elim (cases_eq q k) [
  | inl here ↦ subst IsCapital (sym here) letter
  | inr other ↦ only q (sym
      (contains-insert letters k q ∙ ap (λ b. b || finite.contains letters q) (ne_eqb q k other))
      ∙ there)
]

pub without_vital-insert : (subjects : finite.FinSet nat_cmp) (k : ℕ) → IsWithoutVital subjects
    → is_vital k ≡ false → IsWithoutVital (finite.insert subjects k)
without_vital-insert subjects k without not_vital q vital = elim (cases_eq q k) [
  | inl here ↦ absurd (true≢false (sym vital ∙ ap is_vital here ∙ not_vital))
  | inr other ↦ contains-insert subjects k q
      ∙ ap (λ b. b || finite.contains subjects q) (ne_eqb q k other) ∙ without q vital
]

-- what a changed set has, and where a change changes nothing
pub ruleset changes = (contains-none, contains-insert, contains-remove, insert_again, remove_again)

-- what one more refused subject keeps
pub ruleset kept = (letters_only-insert, without_vital-insert)
