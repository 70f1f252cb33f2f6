-- The text of a lock is told by the list of its words and their roles alone.
use Rattle.std.proofs.Common.{◌≡◌, ℕ, zero, suc, ◌<◌, Bool, List, refl, ap, ◌∙◌, subst, arith, inl}
use Rattle.std.proofs.Common.{inr}
use Rattle.std.proofs.lemmas.Bool.{cases_lt}
use Rattle.std.proofs.lemmas.List.{same_from_push}
use Rattle.nx_sync.specs.Words.{word_of_lock, first_role, role_of, heard_word, lock_words}
use Rattle.nx_copies.specs.copies.LockText.{positions}
use Rattle.nx_copies.proofs.lemmas.locks.Texts.{positions-same}

-- in the same list, word j is the same in both
heard_word-told : (bits others : List Bool) (t u n : ℕ)
    → lock_words bits t n ≡ lock_words others u n
    → (j : ℕ) → j < n → heard_word bits t j ≡ heard_word others u j
unfolding lock_words
heard_word-told bits others t u zero e j lt = absurd (omega (arith, lt))
heard_word-told bits others t u (suc n) e j lt =
    let both = same_from_push (lock_words bits t n) (lock_words others u n) (heard_word bits t n)
    (heard_word others u n) e in
    elim (cases_lt j n) [
      | inl early ↦ heard_word-told bits others t u n both.0 j early
      | inr late ↦
          let last : n ≡ j = omega (arith, lt, late) in
          subst (λ (i : ℕ). heard_word bits t i ≡ heard_word others u i) last both.1
    ]

pub positions-told : (bits others : List Bool) (t u n : ℕ)
    → lock_words bits t n ≡ lock_words others u n
    → positions (first_role bits t) (word_of_lock bits t) n
    ≡ positions (first_role others u) (word_of_lock others u) n
unfolding positions role_of
positions-told bits others t u zero e = refl
positions-told bits others t u (suc n) e =
    let told = heard_word-told bits others t u (suc n) e in
    let first : first_role bits t ≡ first_role others u = ap (λ w. w.1) (told 0 (omega arith)) in
    ap (λ role. positions role (word_of_lock bits t) (suc n)) first
    ∙ positions-same (first_role others u) (word_of_lock bits t) (word_of_lock others u) (suc n)
    (λ j lt. ap (λ w. w.0) (told j lt))
