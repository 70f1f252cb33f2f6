-- Lists that two splits of one list compare.
use Rattle.std.proofs.Common.{◌≡◌, ◌≢◌, ◌≤◌, ◌⊎◌, inl, inr, ℕ, List, [], ◌∷◌, ◌++◌, get_or, drop, length, ap, sym, ◌∙◌, refl, arith, append-nil}
use Rattle.std.proofs.lemmas.List.{length-append, nil_from_length}
use Rattle.nx_log.specs.private.Stages.{Extends}

-- of two lists that begin one list, one begins the other
pub one_extends : (xs ys x y : List ℕ) → xs ++ x ≡ ys ++ y → Extends xs ys ⊎ Extends ys xs
one_extends [] ys x y e = inl (record { more = ys; is = refl })
one_extends (a ∷ xs) [] x y e = inr (record { more = a ∷ xs; is = refl })
one_extends (a ∷ xs) (b ∷ ys) x y e =
    let here : a ≡ b = ap (λ (l : List ℕ). get_or l 0 0) e in
    elim (one_extends xs ys x y (ap (drop 1) e)) [
      | inl f ↦ inl
          (record {
            more = f.more;
            is = ap (λ l. b ∷ l) f.is ∙ ap (λ h. h ∷ (xs ++ f.more)) (sym here);
          })
      | inr f ↦ inr
          (record { more = f.more; is = ap (λ l. a ∷ l) f.is ∙ ap (λ h. h ∷ (ys ++ f.more)) here })
    ]

-- what is empty has no elements in front, and none behind
pub left_nil : (xs ys : List ℕ) → xs ++ ys ≡ [] → xs ≡ []
left_nil [] ys e = refl
left_nil (x ∷ xs) ys e = absurd (cc)

-- of two lists that begin one list, one that isn't longer begins the other
pub shorter_first : (xs ys x y : List ℕ) → length xs ≤ length ys → xs ++ x ≡ ys ++ y → Extends xs ys
shorter_first xs ys x y short e = elim (one_extends xs ys x y e) [
  | inl f ↦ f
  | inr f ↦
      let long = ap length f.is ∙ length-append ys f.more in
      record {
        more = [];
        is = sym (append-nil ys) ∙ ap (λ l. ys ++ l) (sym (nil_from_length f.more (omega arith)))
            ∙ sym f.is ∙ sym (append-nil xs);
      }
]

-- a list that is not empty has elements
pub some_elements : (xs : List ℕ) → xs ≢ [] → 1 ≤ length xs
some_elements [] h = absurd (h refl)
some_elements (x ∷ xs) h = omega arith

-- what ends with an element isn't empty
pub ends_with_one : (xs : List ℕ) (x : ℕ) → xs ++ x ∷ [] ≢ []
ends_with_one xs x e = omega (arith, ap length e, length-append xs (x ∷ []))

-- bytes by a piece and the rest, of which each is known
pub joined : (bytes spelled rest s r : List ℕ) → bytes ≡ spelled ++ rest → spelled ≡ s → rest ≡ r
    → bytes ≡ s ++ r
joined bytes spelled rest s r e is rest_is =
    e ∙ ap (λ l. l ++ rest) is ∙ ap (λ l. s ++ l) rest_is
