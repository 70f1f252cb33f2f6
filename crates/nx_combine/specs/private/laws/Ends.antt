-- Where a list of positions ends.
use Rattle.std.proofs.Common.{◌≡◌, ℕ, zero, suc, ◌+◌, ◌<◌, ◌≤◌, inl, inr, Bool, true, false}
use Rattle.std.proofs.Common.{Some, None, List, length, take, refl, ap, ◌∙◌, arith}
use Rattle.std.proofs.Common.{unwrap_or}
use Rattle.std.specs.List.{find, range_with_len}
use Rattle.std.proofs.lemmas.Bool.Decides.{leb_tells}
use Rattle.nx_code.specs.Reading.{Reception}
use Rattle.nx_combine.specs.PositionEnds.{end_of, has_ended}

-- none of the numbers passes
pub find-none : (p : ℕ → Bool) (a n : ℕ) → ((k : ℕ) → a ≤ k → k < a + n → p k ≡ false)
    → find p (range_with_len a n) ≡ None
find-none p a zero none = refl
find-none p a (suc n) none =
    rw (none a (omega arith) (omega arith))
    (find-none p (a + 1) n (λ k from below. none k (omega arith) (omega arith)))

-- the first that passes
pub find-some : (p : ℕ → Bool) (a n at : ℕ) → a ≤ at → at < a + n → p at ≡ true
    → ((k : ℕ) → a ≤ k → k < at → p k ≡ false) → find p (range_with_len a n) ≡ Some at
find-some p a zero at from below here none = absurd (omega arith)
find-some p a (suc n) at from below here none =
    elim (leb_tells at a) [
      | inl low ↦
          let same : a ≡ at = omega (arith, low.1) in
          let passes : p a ≡ true = ap p same ∙ here in
          rw passes (ap Some same)
      | inr high ↦
          rw (none a (omega arith) (omega (arith, high.1)))
          (find-some p (a + 1) n at (omega (arith, high.1)) (omega arith) here
          (λ k later below. none k (omega arith) below))
    ]

-- the first of the beginnings of positions that has ended is their end
pub end_of-first : (positions : List Reception) (at : ℕ) → at ≤ length positions
    → has_ended (take at positions) ≡ true
    → ((n : ℕ) → n < at → has_ended (take n positions) ≡ false) → end_of positions ≡ at
unfolding end_of
end_of-first positions at within here none =
    elim (leb_tells (length positions) at) [
      | inl all ↦
          ap (λ o. unwrap_or o (length positions))
          (find-none (λ n. has_ended (take n positions)) 0 (length positions)
          (λ k from below. none k (omega (arith, all.1))))
          ∙ omega (arith, all.1)
      | inr more ↦
          ap (λ o. unwrap_or o (length positions))
          (find-some (λ n. has_ended (take n positions)) 0 (length positions) at (omega arith)
          (omega (arith, more.1)) here (λ k from below. none k below))
    ]

-- where none has, it is behind them all
pub end_of-none : (positions : List Reception)
    → ((n : ℕ) → n < length positions → has_ended (take n positions) ≡ false)
    → end_of positions ≡ length positions
unfolding end_of
end_of-none positions none =
    ap (λ o. unwrap_or o (length positions))
    (find-none (λ n. has_ended (take n positions)) 0 (length positions)
    (λ k from below. none k (omega arith)))
