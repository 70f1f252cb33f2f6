-- A row of values that a struct owns, as it is lent. Assumes `Logic`.
use Rattle.std.proofs.Common.{◌≡◌, ◌<◌, ◌^◌, ◌*◌, ℕ, suc, List, [], ◌∷◌, length}
use seplogic.Ra.Ura.{Ura}
use base.Fraction.{full_share}
use base.Fml.{Lft, GName, Share, Fml, fobor, fobs, fauth, fsep}
use mir.Syntax.{named}
use mir.Val.{Val}
use base.Logic.{ent, ex, sep}
use types.Logic.{Logic, sem}
use types.Kit.{‵, Item, Goal, Seq, Step, step, ◌$◌, ◌∵◌, !, qed, by, move, drop, use1, fsplit, fjoin, fpack, feq_i, feq_l, flt_i, flt_l, done, group}
use types.SemTy.{cells, Body as Borrowed}
use denote.RattleType.{RattleType}
use denote.Memory.{mem, cell_at, part_of}
use denote.FollowSlice.{Elements, lends_Elements}
use denote.Index.{row, whole_in, whole_out}
use denote.RawPtr.{Ptr}
use Rattle.nx_live.specs.Room.{in_a_row, lie}

module _ {M : Type 1} {𝓤 : Ura M} {𝓛 : Logic 𝓤} {K : Type 0} {Γ : List (Item 𝓤)} {G : Goal 𝓤 𝓛.H}
  where
    pub lie_in : K → (R : RattleType) (most : ℕ) (p : Ptr) (n : ℕ) (xs : List R.Denot)
        → length xs ≡ n → 0 < n → n < suc most
        → Step K 𝓛 (‵ (lie R most p n xs) ∷ Γ) G (‵ (in_a_row R p xs) ∷ Γ) G
    lie_in t R most p n xs long least few = step (λ s.
        flt_i t n (suc most) few $ fjoin t $ flt_i t 0 n least $ fjoin t $
        feq_i t ℕ (length xs) n long $ fjoin t $ s)

    pub lie_out : K → (R : RattleType) (most : ℕ) (p : Ptr) (n : ℕ) (xs : List R.Denot)
        → (length xs ≡ n → 0 < n → n < suc most → Seq K 𝓛 (‵ (in_a_row R p xs) ∷ Γ) G)
        → Seq K 𝓛 (‵ (lie R most p n xs) ∷ Γ) G
    lie_out t R most p n xs k =
        fsplit t $ feq_l t (λ long. fsplit t $ flt_l t (λ least. fsplit t $ flt_l t (λ few.
        k long least few)))

-- A struct S owns a row, at whose words it is what `with` says of the row. The row is lent, and S
-- follows it.
module _ {M : Type 1} {𝓤 : Ura M} (𝓛 : Logic 𝓤) (S R : RattleType)
    (with : List R.Denot → S.Denot) (words : List Val) (κ : Lft) (q : Share) (rb ro : ℕ)
    (γ : GName) (b o : ℕ) (xs : List R.Denot) (small : length xs < 2 ^ 64)
    (fitting : length xs * (mem R).size < 2 ^ 63)
    (put : (ws : List R.Denot) → length ws ≡ length xs
    → ent 𝓤 (sem 𝓛 (row R full_share ws b o)) (sem 𝓛 (S.own_val (with ws) words)))
  where
    open 𝓛 use {H, A}

    -- all of the struct but the row
    abbrev pub Rest : Fml
    Rest = cell_at full_share S.mir words rb ro

    pub back : (ws : List R.Denot) → length ws ≡ length xs
        → ent 𝓤 (sep 𝓤 (sem 𝓛 (cells (mem R) ws b o)) (sem 𝓛 Rest))
        (sem 𝓛 ((mem S).own_at (with ws) rb ro))
    unfolding part_of
    back ws same =
        qed 𝓛 (‵ (cells (mem R) ws b o) ∷ ‵ Rest ∷ []) ∵
        use1 𝓛 (‵ (row R full_share ws b o)) (whole_out 𝓛 R ws b o) $
        use1 𝓛 (‵ (S.own_val (with ws) words)) (put ws same) $
        move ! (1 ∷ 0 ∷ []) $ fjoin ! $
        fpack ! (List Val)
        (λ us. fsep (cell_at full_share S.mir us rb ro) (S.own_val (with ws) us)) words $ done !

    -- the slice that is lent, and that the struct follows it
    abbrev pub IsLent : GName → base.Logic.SProp 𝓤
    IsLent γ' =
        Elements 𝓛 S R with (named 0) κ q rb ro b o γ xs (small, fitting) (sem 𝓛 Rest) back γ'

    pub lends_row : (d : S.Denot)
        → ent 𝓤 (sep 𝓤 (A.obor κ q (Borrowed (mem S) rb ro γ))
        (sep 𝓤 (A.obs γ (S.coded.code d)) (sep 𝓤 (A.auth γ (S.coded.code d))
        (sep 𝓤 (sem 𝓛 (row R full_share xs b o)) (sem 𝓛 Rest)))))
        (H.⇛ (ex 𝓤 IsLent))
    lends_row d =
        qed 𝓛 (‵ (fobor κ q (Borrowed (mem S) rb ro γ)) ∷ ‵ (fobs γ (S.coded.code d))
        ∷ ‵ (fauth γ (S.coded.code d)) ∷ ‵ (row R full_share xs b o) ∷ ‵ Rest ∷ []) ∵
        move ! (3 ∷ []) $
        use1 𝓛 (‵ (cells (mem R) xs b o)) (whole_in 𝓛 R xs b o) $
        move ! (1 ∷ 2 ∷ 3 ∷ 0 ∷ []) $ group ! 5 $
        by ! (lends_Elements 𝓛 S R with (named 0) κ q rb ro b o γ xs (small, fitting) (sem 𝓛 Rest)
        back (S.coded.code d) (S.coded.code d))
