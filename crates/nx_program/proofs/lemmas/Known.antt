-- What holds or not can be known of equalities, orders and texts, of what is joined of these, and
-- of a number up to a most.
use Rattle.std.proofs.Common.{◌≡◌, ◌⊎◌, ◌≤◌, ℕ, zero, suc, ℤ, Bool, true, false, Decides, List}
use Rattle.std.proofs.Common.{[], ◌∷◌, arith, inl, inr, int_eq, nat_le, refl, subst}
use Rattle.std.specs.Str.{bytes_eq}
use Rattle.std.proofs.lemmas.Bool.{cases_eq, leb-false, leb-true}
use Rattle.std.proofs.lemmas.Bool.Decides.{Decides-int_eq}
use Rattle.std.proofs.lemmas.List.Elements.{All-cons, All-head, All-nil, All-tail}
use Rattle.std.proofs.lemmas.Slice.Eq.{bytes_eq-Decides}
use Rattle.std.specs.Prelude.{All}

-- it holds, or it does not
abbrev pub IsKnown : Type 0 → Type 0
IsKnown P = P ⊎ (P → ⊥)

by_test : (b : Bool) (P : Type 0) → Decides b P → IsKnown P
by_test true P decides = inl (decides.0 refl)
by_test false P decides = inr (λ p. let yes : false ≡ true = decides.1 p in absurd (cc))

pub same_text : (a b : List ℕ) → IsKnown (a ≡ b)
same_text a b = by_test (bytes_eq a b) (a ≡ b) (bytes_eq-Decides a b)

pub same_integer : (a b : ℤ) → IsKnown (a ≡ b)
same_integer a b = by_test (int_eq a b) (a ≡ b) (Decides-int_eq a b)

pub at_most : (a b : ℕ) → IsKnown (a ≤ b)
at_most a b = go (nat_le a b) refl
  where
    go : (t : Bool) → nat_le a b ≡ t → IsKnown (a ≤ b)
    go true e = inl (leb-true a b e)
    go false e = inr (λ le. let above = leb-false a b e in absurd (omega arith))

pub both : (P Q : Type 0) → IsKnown P → IsKnown Q → IsKnown (P × Q)
both P Q (inl p) (inl q) = inl (p, q)
both P Q (inl p) (inr fails) = inr (λ x. fails x.1)
both P Q (inr fails) q = inr (λ x. fails x.0)

pub either : (P Q : Type 0) → IsKnown P → IsKnown Q → IsKnown (P ⊎ Q)
either P Q (inl p) q = inl (inl p)
either P Q (inr fails) (inl q) = inl (inr q)
either P Q (inr fails) (inr nor) = inr (λ x. elim x [ inl p ↦ fails p | inr q ↦ nor q ])

-- of each element of a list
pub each : (P : ℕ → Type 0) → ((x : ℕ) → IsKnown (P x)) → (xs : List ℕ) → IsKnown (All P xs)
each P known [] = inl (All-nil P)
each P known (x ∷ xs) = elim (known x) [
  | inr fails ↦ inr (λ all. fails (All-head P x xs all))
  | inl p ↦ elim (each P known xs) [
    | inr fails ↦ inr (λ all. fails (All-tail P x xs all))
    | inl ps ↦ inl (All-cons P x xs p ps)
  ]
]

-- some number up to the most, of which it holds
abbrev pub UpTo : ℕ → (ℕ → Type 0) → Type 0
UpTo most P = (k : ℕ) × (k ≤ most) × P k

pub up_to : (most : ℕ) (P : ℕ → Type 0) → ((k : ℕ) → IsKnown (P k)) → IsKnown (UpTo most P)
up_to zero P known = elim (known 0) [
  | inl p ↦ inl (0, (omega arith), p)
  | inr fails ↦ inr (λ x. let small = x.1 in let is : x.0 ≡ 0 = omega arith in
      fails (subst P is x.2))
]
up_to (suc most) P known = elim (known (suc most)) [
  | inl p ↦ inl (suc most, (omega arith), p)
  | inr fails ↦ elim (up_to most P known) [
    | inl x ↦ inl (x.0, (let small = x.1 in omega arith), x.2)
    | inr none ↦ inr (λ x. elim (cases_eq x.0 (suc most)) [
      | inl is ↦ fails (subst P is x.2)
      | inr other ↦ let small = x.1 in none (x.0, omega (arith, other), x.2)
    ])
  ]
]
