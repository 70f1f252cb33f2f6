-- The machine value of the families of a channel, and what they own. Assumes `Logic`.
use Rattle.std.proofs.Common.{◌≡◌, ◌<◌, ◌^◌, ◌++◌, ℕ, suc, List, [], ◌∷◌, length, refl, ap, ◌∙◌, lit<, arith}
use seplogic.Ra.Ura.{Ura}
use base.Fraction.{full_share}
use base.Fml.{Lft, GName, Share, fobs, fauth, fbor, fobor, flft}
use mir.Syntax.{w64}
use mir.Val.{Val, vint, vstruct, vcons, vnil}
use base.Logic.{ent, never, id⊢}
use types.Logic.{Logic, sem}
use types.Kit.{by, keep, qed, ◌∵◌, !, Item, Goal, Soaks, Seq, Step, step, ‵, ◌$◌, move, drop, fsplit, fjoin, fpick, fpack, rewrite, feq_i, feq_l, flt_i, flt_l}
use types.SemTy.{Body as Borrowed}
use denote.RattleType.{RattleType, Valss, owns}
use denote.Builtin.{RawPtr, usize}
use denote.Memory.{cell_at, mem}
use denote.Index.{row}
use denote.RawPtr.{Ptr, block_ptr, null_ptr, ptr_val, in_a_block}
use denote.Steps.{nothing, opens}
use denote.Param.{layout}
use denote.Struct.Struct.{within}
use denote.Struct.Owning.{shape}
use Rattle.core.proofs.cell.Inside.{Good}
use Rattle.core.specs.Ptr.{ptr_add}
use Rattle.nx_combine.specs.FamilyPlaces.{LentFamily}
use Rattle.nx_live.specs.Lending.{families_from, families_lie}
use Rattle.nx_combine.specs.Families.{most_families}
use Rattle.nx_live.specs.Room.{family_row, in_a_row, lie}
use Rattle.nx_live.proofs.lemmas.LentRow.{lie_out}
use Rattle.nx_live.specs.contracts.families.LentFamilies as families

abbrev pub Families : RattleType
Families = families.the_row

-- a struct of an address and a count
abbrev pub word : Ptr → ℕ → Val
word p n = vstruct (vcons (ptr_val p) (vcons (vint w64 n) vnil))

pub word_good : (p : Ptr) (n : ℕ) → n < 2 ^ 64 → Good (layout Families) (word p n)
word_good (block_ptr b o) n fits = (tt, (tt, (record { fits = fits }, tt)))
word_good null_ptr n fits = (tt, (record { fits = lit< tt }, (record { fits = fits }, tt)))

abbrev pub with : Ptr → ℕ → List family_row.Denot → Families.Denot
with p n xs = record { at = p; count = n; value = xs }

module _ {M : Type 1} {𝓤 : Ura M} {𝓛 : Logic 𝓤} {K : Type 0} {Γ : List (Item 𝓤)} {G : Goal 𝓤 𝓛.H}
  where
    pub families_in : K → (p : Ptr) (n : ℕ) (xs : List family_row.Denot) → n < 2 ^ 64
        → Step K 𝓛 (‵ (Families.own_val (with p n xs) (word p n ∷ [])) ∷ Γ) G
        (‵ (lie family_row most_families p n xs) ∷ Γ) G
    families_in t p n xs fits = step (λ s.
        nothing t $ flt_i t n (2 ^ 64) fits $
        feq_i t (List Val) (vint w64 n ∷ []) (vint w64 n ∷ []) refl $ fjoin t $ fjoin t $
        feq_i t (List Val) (ptr_val p ∷ []) (ptr_val p ∷ []) refl $ fjoin t $
        feq_i t (List Val) (word p n ∷ []) (word p n ∷ []) refl $ fjoin t $
        fpack t (Valss (RawPtr ∷ usize ∷ []))
        (within (shape families.the_type) (p, (n, tt)) (word p n ∷ []))
        (ptr_val p ∷ [], (vint w64 n ∷ [], tt)) $ fjoin t $ s)

    pub families_out : K → (d : Families.Denot) (vs : List Val)
        → (vs ≡ word d.at d.count ∷ [] → d.count < 2 ^ 64
        → Seq K 𝓛 (‵ (lie family_row most_families d.at d.count d.value) ∷ Γ) G)
        → Seq K 𝓛 (‵ (Families.own_val d vs) ∷ Γ) G
    families_out t d vs k =
        fsplit t $ fpick t (λ vss. fsplit t $ feq_l t (λ ev. fsplit t $ feq_l t (λ ep.
        fsplit t $ fsplit t $ feq_l t (λ en. flt_l t (λ fits. drop t $
        k (ev ∙ (λ i. vstruct (mir.Val.of_list (ep i ++ (en i ++ []))) ∷ [])) fits)))))

module _ {M : Type 1} {𝓤 : Ura M} {𝓛 : Logic 𝓤} {K : Type 0} {Γ : List (Item 𝓤)} {G : Goal 𝓤 𝓛.H}
  where
    -- behind a `&mut`: their row; the words; the open borrow; obs; auth
    pub families_open : K → Soaks G → {κ : Lft} {q : Share} {γ : GName} (d : Families.Denot)
        (rb ro : ℕ)
        → ((b o : ℕ) → d.at ≡ block_ptr b o → length d.value ≡ d.count → 0 < d.count
        → d.count < suc most_families
        → Seq K 𝓛 (‵ (row family_row full_share d.value b o)
        ∷ ‵ (cell_at full_share Families.mir (word (block_ptr b o) d.count ∷ []) rb ro)
        ∷ ‵ (fobor κ q (Borrowed (mem Families) rb ro γ)) ∷ ‵ (fobs γ (Families.coded.code d))
        ∷ ‵ (fauth γ (Families.coded.code d)) ∷ Γ) G)
        → Seq K 𝓛 (‵ (fobs γ (Families.coded.code d)) ∷ ‵ (fbor κ (Borrowed (mem Families) rb ro γ))
        ∷ ‵ (flft κ q) ∷ Γ) G
    families_open t z d rb ro k =
        opens t z Families {h = d} rb ro (λ vs. move t (1 ∷ []) $
        families_out t d vs (λ ws fits.
        lie_out t family_row most_families d.at d.count d.value (λ long least few.
        in_a_block t d.at (λ p. in_a_row family_row p d.value) (id⊢ 𝓤 (never 𝓤)) (λ b o e.
        rewrite t 1 (λ (us : List Val). ‵ (cell_at full_share Families.mir us rb ro))
        (ws ∙ ap (λ (p : Ptr). word p d.count ∷ []) e) refl $ k b o e long least few))))

pub length_from : (p : Ptr) (each : ℕ) (held : List (List LentFamily))
    → length (families_from p each held) ≡ length held
length_from p each [] = refl
length_from p each (h ∷ more) = ap suc (length_from (ptr_add family_row each p) each more)

-- no family lies at no address
pub none_at_null : {M : Type 1} {𝓤 : Ura M} (𝓛 : Logic 𝓤) (each : ℕ)
    (held : List (List LentFamily)) → 0 < length held
    → ent 𝓤 (sem 𝓛 (families_lie (families_from null_ptr each held))) (never 𝓤)
none_at_null 𝓛 each [] some = absurd (omega (arith, some))
none_at_null {𝓤 = 𝓤} 𝓛 each (h ∷ more) some =
    qed 𝓛 (‵ (families_lie (families_from null_ptr each (h ∷ more))) ∷ []) ∵
    fsplit ! $ lie_out ! family_row most_families null_ptr each h (λ long least few.
    keep ! (0 ∷ []) $ by ! (id⊢ 𝓤 (never 𝓤)))
