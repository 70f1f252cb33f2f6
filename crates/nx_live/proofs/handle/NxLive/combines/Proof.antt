-- `combines` reads a field of the handle, and leaves the receiver as it is.
use Rattle.std.proofs.Common.{ℕ, Bool, List, [], ◌∷◌, refl, sym}
use base.Fml.{ftrue, flft}
use mir.Syntax.{named}
use mir.Val.{Val, vbool}
use base.Logic.{SProp}
use prog.Memory.{Memory}
use contract.Running.{tables}
use types.Kit.{‵, ◌⊛◌, ◌$◌, ◌∵◌, !, qed, done, drop, move, keep, split, join, fsplit3, group, frame, rewrite, suffices}
use types.Part.{whole, sub, look_in}
use types.Run.{stop, fld, load, of_opd, returns, enter}
use types.ByLocal.{alloc_all, pass_all, free_all, look_at, through, sets}
use base.Fraction.{full_share}
use denote.Builtin.{bool}
use denote.Memory.{cell_at}
use denote.Plain.{bool_Makes}
use denote.Ref.{MutRef, mut_vals, mut_Tells}
use denote.Signature.{plain}
use denote.Steps.{nothing, opens, closes, owned}
use denote.Triple.Walked.{Stays, walk_of, stay_ref, Goes-ref, ends_at}
use Rattle.core.proofs.mem.Facts.{says_two}
use Rattle.std.proofs.raw_atomic.Walks.{proved}
use Rattle.nx_live.proofs.lemmas.HandleValues.{Handle, handle_in, handle_out, word}
use Rattle.nx_live.specs.contracts.handle.NxLive.combines as f
use Rattle.nx_live.proofs.handle.NxLive.combines.Statement.{statement}
use Rattle.nx_live.proofs.handle.NxLive.combines.Code as code

abbrev stayed : Stays f.ended.signature.params f.ended.kept
stayed = (stay_ref (0 ∷ []) tt (plain (λ _. Handle)), tt)

pub combines_spec : {M : Type 1} → statement M
combines_spec 𝓤 𝓛 𝓜 𝓡 wired =
    let c = f.clauses 𝓛 𝓜.mem 𝓡.returns in let W = walk_of 𝓛 f.ended stayed c in
    proved 𝓛 f.ended stayed c 𝓜 𝓡 (Goes-ref 𝓛 1 0 tt (plain (λ _. Handle)), tt)
    f.Key.name code.function (code.unfolded 𝓤 𝓛.H 𝓜 𝓡 wired)
    (λ κs. (mut_vals, tt)) (λ κs. (mut_Tells (named 0) κs.0 Handle, tt)) (λ κs qs bounds a _ are.
    let b = a.0.ref_ptr.0 in let o = a.0.ref_ptr.1 in let h = a.0.now in let vs = mut_vals a.0 in
    let y : W.Ghost = ((κs, qs, bounds, a, (vs, tt)), tt) in
    let words = word h.at h.count h.combines ∷ [] in
    qed 𝓛 (((‵ (flft κs.0 qs.0) ⊛ ‵ ftrue) ⊛ ‵ ((MutRef (named 0) κs.0 Handle).own_val a.0 vs)
    ⊛ ‵ ftrue) ∷ ‵ ftrue ∷ []) ∵
    split ! $ split ! $ move ! (2 ∷ []) $ split ! $ keep ! (0 ∷ 2 ∷ []) $
    enter ! _ _ _ _ _ $ alloc_all ! (λ l. pass_all ! refl ((tt, tt), tt) $
    fsplit3 ! $ move ! (1 ∷ 2 ∷ 3 ∷ []) $ opens ! tt Handle b o (λ us.
    move ! (1 ∷ []) $ handle_out ! h us (λ ws fits kind.
    rewrite ! 1 (λ (us' : List Val). ‵ (cell_at full_share Handle.mir us' b o)) ws refl $
    -- [where the places lie; the words; the open borrow, in three entries]
    sets ! (of_opd ! (load ! (through ! refl (fld ! refl (stop !)))
    (look_in ! 1 (sub ! 2 refl (whole !))))) refl (tt, tt) $
    handle_in ! h.at h.count h.combines h.value fits kind $
    move ! (1 ∷ 0 ∷ []) $ closes ! tt Handle h words b o $
    -- [two parts of self; the token; self's first part]
    returns ! (look_at ! 0 refl) $ free_all ! refl $ move ! (3 ∷ []) $
    suffices ! _ (ends_at 𝓛 f.ended stayed c y (vbool h.combines) h.combines (h, tt) (tt, tt)) $
    says_two ! (kind, refl) $
    group ! 3 $ nothing ! $ move ! (1 ∷ 0 ∷ []) $ join ! $ nothing ! $ move ! (2 ∷ 0 ∷ []) $
    join ! $ frame ! $ frame ! $
    owned ! bool _ (bool_Makes 𝓛) h.combines _ refl $ done !))))
