-- Rows that grow at their end. Assumes `Logic`.
use Rattle.std.proofs.Common.{◌≡◌, ◌+◌, ◌*◌, ℕ, zero, suc, List, [], ◌∷◌, ◌++◌, length, replicate, refl, sym, ap, arith}
use Rattle.std.proofs.Math.Nat.{suc-mul, zero-mul}
use seplogic.Ra.Ura.{Ura}
use base.Fraction.{full_share}
use base.Logic.{ent, sep, id⊢}
use types.Logic.{Logic, sem}
use types.Kit.{‵, ◌$◌, ◌∵◌, !, qed, done, move, use2, fsplit, fjoin, rewrite}
use denote.Steps.{nothing}
use denote.RattleType.{RattleType}
use denote.Memory.{mem, part_at}
use denote.Index.{row}

-- the place behind so many
abbrev pub behind : (s n o : ℕ) → ℕ
behind s n o = n * s + o

pub behind_none : (s o : ℕ) → behind s 0 o ≡ o
behind_none s o = let e : 0 * s ≡ 0 = zero-mul s in omega (arith, e)

pub behind_first : (s n o : ℕ) → behind s (suc n) o ≡ behind s n (o + s)
behind_first s n o = let e : suc n * s ≡ n * s + s = suc-mul n s in omega (arith, e)

pub behind_next : (s n o : ℕ) → behind s (suc n) o ≡ behind s n o + s
behind_next s n o = let e : suc n * s ≡ n * s + s = suc-mul n s in omega (arith, e)

pub one_more_of : {A : Type 0} (n : ℕ) (x : A) → replicate n x ++ (x ∷ []) ≡ replicate (suc n) x
one_more_of zero x = refl
one_more_of (suc n) x = ap (λ xs. x ∷ xs) (one_more_of n x)

module _ {M : Type 1} {𝓤 : Ura M} (𝓛 : Logic 𝓤) (R : RattleType) where
  -- a value behind a row is one more of it
  pub row_more : (xs : List R.Denot) (x : R.Denot) (b o : ℕ)
      → ent 𝓤 (sep 𝓤 (sem 𝓛 (row R full_share xs b o))
      (sem 𝓛 (part_at R full_share x b (behind (mem R).size (length xs) o))))
      (sem 𝓛 (row R full_share (xs ++ (x ∷ [])) b o))
  row_more [] x b o =
      qed 𝓛 (‵ (row R full_share [] b o)
      ∷ ‵ (part_at R full_share x b (behind (mem R).size 0 o)) ∷ []) ∵
      rewrite ! 1 (λ (k : ℕ). ‵ (part_at R full_share x b k)) (behind_none (mem R).size o) refl $
      move ! (1 ∷ 0 ∷ []) $ fjoin ! $ done !
  row_more (y ∷ ys) x b o =
      qed 𝓛 (‵ (row R full_share (y ∷ ys) b o)
      ∷ ‵ (part_at R full_share x b (behind (mem R).size (suc (length ys)) o)) ∷ []) ∵
      rewrite ! 1 (λ (k : ℕ). ‵ (part_at R full_share x b k))
      (behind_first (mem R).size (length ys) o) refl $
      fsplit ! $ move ! (1 ∷ 2 ∷ []) $
      use2 𝓛 (‵ (row R full_share (ys ++ (x ∷ [])) b (o + (mem R).size)))
      (row_more ys x b (o + (mem R).size)) $
      move ! (1 ∷ 0 ∷ []) $ fjoin ! $ done !
