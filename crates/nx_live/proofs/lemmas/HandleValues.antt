-- The machine value of a handle, and what it owns. Assumes `Logic`.
use Rattle.std.proofs.Common.{◌≡◌, ◌<◌, ◌^◌, ◌++◌, ℕ, suc, Bool, true, false, List, [], ◌∷◌, length, refl, sym, ap, ◌∙◌, lit<}
use mathlib.Core.Bool.{true≢false}
use seplogic.Ra.Ura.{Ura}
use base.Fraction.{full_share}
use base.Fml.{Lft, GName, Share, fobs, fauth, fbor, fobor, flft}
use mir.Syntax.{w64}
use mir.Val.{Val, vbool, vint, vstruct, vcons, vnil}
use base.Logic.{never, id⊢}
use types.Logic.{Logic, sem}
use types.Kit.{◌∵◌, !, Item, Goal, Soaks, Seq, Step, step, ‵, ◌$◌, move, drop, fsplit, fjoin, fpick, fpack, rewrite, feq_i, feq_l, flt_i, flt_l}
use types.SemTy.{Body as Borrowed}
use denote.RattleType.{RattleType, Valss, owns}
use denote.Builtin.{RawPtr, bool, usize}
use denote.Memory.{cell_at, mem}
use denote.RawPtr.{Ptr, block_ptr, null_ptr, ptr_val, in_a_block}
use denote.Steps.{nothing, opens}
use denote.Param.{layout}
use denote.Struct.Struct.{within}
use denote.Struct.Owning.{shape}
use Rattle.core.proofs.cell.Inside.{Good}
use Rattle.nx_live.specs.Places.{Places, Plain, Combining, combine, combining_of, lie_there, plain_of}
use Rattle.nx_live.specs.contracts.handle.NxLive as handle

abbrev pub Handle : RattleType
Handle = handle.the_row

-- a struct of an address, a count, and whether the places combine
abbrev pub word : Ptr → ℕ → Bool → Val
word p n y = vstruct (vcons (ptr_val p) (vcons (vint w64 n) (vcons (vbool y) vnil)))

pub word_good : (p : Ptr) (n : ℕ) (y : Bool) → n < 2 ^ 64 → Good (layout Handle) (word p n y)
word_good (block_ptr b o) n y fits = (tt, (tt, (record { fits = fits }, (tt, tt))))
word_good null_ptr n y fits =
    (tt, (record { fits = lit< tt }, (record { fits = fits }, (tt, tt))))

abbrev pub with : Ptr → ℕ → Bool → Places → Handle.Denot
with p n y places = record { at = p; count = n; combines = y; value = places }

-- places of one kind are those
pub is_plain : (places : Places) → combine places ≡ false → places ≡ Plain (plain_of places)
is_plain (Plain places) e = refl
is_plain (Combining places) e = absurd (true≢false e)

pub is_combining : (places : Places) → combine places ≡ true
    → places ≡ Combining (combining_of places)
is_combining (Plain places) e = absurd (true≢false (sym e))
is_combining (Combining places) e = refl

module _ {M : Type 1} {𝓤 : Ura M} {𝓛 : Logic 𝓤} {K : Type 0} {Γ : List (Item 𝓤)} {G : Goal 𝓤 𝓛.H}
  where
    pub handle_in : K → (p : Ptr) (n : ℕ) (y : Bool) (places : Places) → n < 2 ^ 64
        → y ≡ combine places
        → Step K 𝓛 (‵ (Handle.own_val (with p n y places) (word p n y ∷ [])) ∷ Γ) G
        (‵ (lie_there p n places) ∷ Γ) G
    handle_in t p n y places fits kind = step (λ s.
        feq_i t Bool y (combine places) kind $ fjoin t $
        nothing t $ feq_i t (List Val) (vbool y ∷ []) (vbool y ∷ []) refl $ fjoin t $
        flt_i t n (2 ^ 64) fits $
        feq_i t (List Val) (vint w64 n ∷ []) (vint w64 n ∷ []) refl $ fjoin t $ fjoin t $
        feq_i t (List Val) (ptr_val p ∷ []) (ptr_val p ∷ []) refl $ fjoin t $
        feq_i t (List Val) (word p n y ∷ []) (word p n y ∷ []) refl $ fjoin t $
        fpack t (Valss (RawPtr ∷ usize ∷ bool ∷ []))
        (within (shape handle.the_type) (p, (n, (y, tt))) (word p n y ∷ []))
        (ptr_val p ∷ [], (vint w64 n ∷ [], (vbool y ∷ [], tt))) $ fjoin t $ s)

    pub handle_out : K → (d : Handle.Denot) (vs : List Val)
        → (vs ≡ word d.at d.count d.combines ∷ [] → d.count < 2 ^ 64
        → d.combines ≡ combine d.value
        → Seq K 𝓛 (‵ (lie_there d.at d.count d.value) ∷ Γ) G)
        → Seq K 𝓛 (‵ (Handle.own_val d vs) ∷ Γ) G
    handle_out t d vs k =
        fsplit t $ fpick t (λ vss. fsplit t $ feq_l t (λ ev. fsplit t $ feq_l t (λ ep.
        fsplit t $ fsplit t $ feq_l t (λ en. flt_l t (λ fits. fsplit t $ feq_l t (λ ey. drop t $
        fsplit t $ feq_l t (λ kind.
        k (ev ∙ (λ i. vstruct (mir.Val.of_list (ep i ++ (en i ++ (ey i ++ [])))) ∷ []))
        fits kind)))))))

module _ {M : Type 1} {𝓤 : Ura M} {𝓛 : Logic 𝓤} {K : Type 0} {Γ : List (Item 𝓤)} {G : Goal 𝓤 𝓛.H}
  where
    -- behind a `&mut`: where the places lie; the words; the open borrow; obs; auth
    pub handle_opens : K → Soaks G → {κ : Lft} {q : Share} {γ : GName} (d : Handle.Denot)
        (rb ro : ℕ)
        → (d.count < 2 ^ 64 → d.combines ≡ combine d.value
        → Seq K 𝓛 (‵ (lie_there d.at d.count d.value)
        ∷ ‵ (cell_at full_share Handle.mir (word d.at d.count d.combines ∷ []) rb ro)
        ∷ ‵ (fobor κ q (Borrowed (mem Handle) rb ro γ)) ∷ ‵ (fobs γ (Handle.coded.code d))
        ∷ ‵ (fauth γ (Handle.coded.code d)) ∷ Γ) G)
        → Seq K 𝓛 (‵ (fobs γ (Handle.coded.code d)) ∷ ‵ (fbor κ (Borrowed (mem Handle) rb ro γ))
        ∷ ‵ (flft κ q) ∷ Γ) G
    handle_opens t z d rb ro k =
        opens t z Handle {h = d} rb ro (λ vs. move t (1 ∷ []) $
        handle_out t d vs (λ ws fits kind.
        rewrite t 1 (λ (us : List Val). ‵ (cell_at full_share Handle.mir us rb ro)) ws refl $
        k fits kind))
