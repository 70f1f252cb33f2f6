-- The machine value of a handle, and what it owns. Assumes `Logic`.
use Rattle.std.proofs.Common.{◌≡◌, ℕ, List, [], ◌∷◌, refl, ap, ◌∙◌, lit<}
use seplogic.Ra.Ura.{Ura}
use mir.Raw.{raw as bare}
use mir.Val.{Val, vstruct, vcons, vnil}
use base.Logic.{SProp, ent, guard, never, via, fst∗, snd∗, guard_i}
use types.Logic.{Logic, sem}
use types.Kit.{Item, Goal, Seq, Step, step, ‵, given, ◌$◌, drop, fsplit, fjoin, fpick, fpack, feq_i, feq_l, use1, learn}
use contract.Monad.{fact_use}
use denote.RattleType.{RattleType, Valss}
use denote.Builtin.{RawPtr}
use denote.Memory.{lone as lone_type}
use denote.RawPtr.{Ptr, block_ptr, null_ptr, ptr_val, lies_at, Testable, in_a_block}
use denote.Steps.{nothing}
use denote.Param.{layout}
use denote.Struct.Struct.{within}
use denote.Struct.Owning.{shape}
use Rattle.core.proofs.cell.Inside.{Good}
use Rattle.std.proofs.GlobalToken.{dealloc_token-Testable}
use Rattle.std.specs.contracts.impls.GlobalAllocator.TheImpl.{ghosts}
use Rattle.std.specs.declared.option.Option.{Option}
use Rattle.std.specs.declared.option.Option.TheVariants.{None, Some}
use Rattle.nx_c.specs.Handle.{handle_owns, heap}
use Rattle.nx_c.specs.contracts.receiver.handle.NxReceiver as handle
use Rattle.nx_c.specs.contracts.receiver.open_receiver.OpenReceiver as open_receiver
use Rattle.std_alloc.specs.Box.Ownership.{box_owns}

abbrev pub Handle : RattleType
Handle = handle.the_row

abbrev pub R : RattleType
R = open_receiver.the_row

-- a struct of one value
abbrev pub alone : Val → Val
alone v = vstruct (vcons v vnil)

abbrev pub word : Ptr → Val
word p = alone (ptr_val p)

abbrev pub boxed : Ptr → R.Denot → base.Fml.Fml
boxed p x = box_owns (ghosts.dealloc_token heap) R p x

pub word_good : (p : Ptr) → Good (layout Handle) (word p)
word_good (block_ptr b o) = (tt, (tt, tt))
word_good null_ptr = (tt, (record { fits = lit< tt }, tt))

module _ {M : Type 1} {𝓤 : Ura M} (𝓛 : Logic 𝓤) where
  -- the pointer of a box may be compared with null
  pub tested : (p : Ptr) (x : R.Denot)
      → ent 𝓤 (sem 𝓛 (boxed p x)) (guard 𝓤 (Testable p) (sem 𝓛 (boxed p x)))
  tested p x = let B : SProp 𝓤 = sem 𝓛 (boxed p x) in
      fact_use 𝓤 (Testable p)
      (via 𝓤 _ (snd∗ 𝓤 (sem 𝓛 (lies_at R base.Fraction.full_share p x))
      (sem 𝓛 (ghosts.dealloc_token heap (bare (lone_type R.mir)) p)))
      (dealloc_token-Testable 𝓛 heap (bare (lone_type R.mir)) p))
      (guard_i 𝓤 (Testable p) B)

module _ {M : Type 1} {𝓤 : Ura M} {𝓛 : Logic 𝓤} {K : Type 0} {Γ : List (Item 𝓤)} {G : Goal 𝓤 𝓛.H}
  where
    pub handle_in : K → (p : Ptr) (x : Option R.Denot)
        → Step K 𝓛 (‵ (Handle.own_val (record { at = p; value = x }) (word p ∷ [])) ∷ Γ) G
        (‵ (handle_owns p x) ∷ Γ) G
    handle_in t p x = step (λ s.
        nothing t $ feq_i t (List Val) (ptr_val p ∷ []) (ptr_val p ∷ []) refl $ fjoin t $
        feq_i t (List Val) (word p ∷ []) (word p ∷ []) refl $ fjoin t $
        fpack t (Valss (RawPtr ∷ [])) (within (shape handle.the_type) (p, tt) (word p ∷ []))
        (ptr_val p ∷ [], tt) $ fjoin t $ s)

    pub handle_out : K → (d : Handle.Denot) (vs : List Val)
        → (vs ≡ word d.at ∷ [] → Seq K 𝓛 (‵ (handle_owns d.at d.value) ∷ Γ) G)
        → Seq K 𝓛 (‵ (Handle.own_val d vs) ∷ Γ) G
    handle_out t d vs k =
        fsplit t $ fpick t (λ vss. fsplit t $ feq_l t (λ ev. fsplit t $ feq_l t (λ ep. drop t $
        k (ev ∙ ap (λ (us : List Val). vstruct (mir.Val.of_list (mathlib.Core.List.◌++◌ us []))
        ∷ [])
        ep))))

    -- the handle is null and has nothing, or points to the box of what it has
    pub either_owned : K → (p : Ptr) (x : Option R.Denot)
        → (p ≡ null_ptr → x ≡ None → Seq K 𝓛 Γ G)
        → ((b o : ℕ) (y : R.Denot) → p ≡ block_ptr b o → x ≡ Some y → Testable (block_ptr b o)
        → Seq K 𝓛 (‵ (boxed (block_ptr b o) y) ∷ Γ) G)
        → Seq K 𝓛 (‵ (handle_owns p x) ∷ Γ) G
    either_owned t p None none one = feq_l t (λ e. none e refl)
    either_owned t p (Some y) none one =
        in_a_block t p (λ q. boxed q y)
        (fst∗ 𝓤 (never 𝓤) (sem 𝓛 (ghosts.dealloc_token heap (bare (lone_type R.mir)) null_ptr)))
        (λ b o e.
        use1 𝓛 (given (Testable (block_ptr b o)) (‵ (boxed (block_ptr b o) y)))
        (tested 𝓛 (block_ptr b o) y) $ learn t (λ s. one b o y e refl s))
