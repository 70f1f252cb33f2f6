-- `nx_live_return` does nothing: nothing is kept in the room of a closed receiver.
use Rattle.std.proofs.Common.{[], ◌∷◌, refl}
use base.Fraction.{full_share}
use base.Fml.{fat, froom}
use mir.Val.{Val, vunit}
use base.Logic.{id⊢}
use prog.Wp.{WpFn}
use types.Kit.{‵, raw, prop, some, ◌⊛◌, ◌$◌, ◌∵◌, !, qed, done, drop, move, pick, split, use1, join, fjoin, feq_i, regoal, suffices, group}
use types.Run.{enter, of_opd, unit_lit, returns}
use types.ByLocal.{alloc_all, pass_all, free_all, look_at, get, sets}
use contract.Running.{tables}
use borrow.Table.OneValue.{part_out}
use denote.Exit.{yes}
use denote.Param.{layout}
use denote.RawPtr.{Ptr, RawPtr, block_ptr, in_a_block, rawptr_vals, rawptr_Tells}
use denote.Signature.{plain}
use denote.Steps.{nothing}
use denote.Triple.Entry.{on_entry}
use denote.Triple.Walked.{Stays, walk_of, stay_dropped, Goes-dropped, ends_at}
use Rattle.std.proofs.raw_atomic.Walks.{proved}
use Rattle.nx_live.specs.Lending.{channels_of, closed_at, closed_places, room_lies}
use Rattle.nx_live.specs.Places.{combine}
use Rattle.nx_live.proofs.lemmas.Freed.{freed}
use Rattle.nx_live.proofs.lemmas.HandleValues.{Handle, handle_out, with}
use Rattle.nx_live.specs.contracts.lending.nx_live_return as f
use Rattle.nx_live.proofs.lending.nx_live_return.Statement.{statement}
use Rattle.nx_live.proofs.lending.nx_live_return.Code as code

abbrev stayed : Stays f.ended.signature.params f.ended.kept
stayed = (stay_dropped _ yes, tt)

pub nx_live_return_spec : {M : Type 1} → statement M
nx_live_return_spec 𝓤 𝓛 𝓜 𝓡 wired =
    let c = f.clauses 𝓛 𝓜.mem 𝓡.returns in let W = walk_of 𝓛 f.ended stayed c in
    let 𝓣 = tables 𝓤 𝓛.H 𝓜 𝓡 𝓡.env in
    proved 𝓛 f.ended stayed c 𝓜 𝓡 (Goes-dropped 𝓛 0 (plain (λ _. RawPtr)) yes (λ κs x w. refl), tt)
    f.Key.name code.function (code.unfolded 𝓤 𝓛.H 𝓜 𝓡 wired)
    (λ κs. (rawptr_vals, tt)) (λ κs. (rawptr_Tells, tt)) (λ κs qs bounds a lent are.
    let room = lent.0 in let places = closed_places lent.1 in let n = channels_of lent.1 in
    let y : Ptr → W.Ghost = λ p. ((κs, qs, bounds, (p, tt), (rawptr_vals p, tt)), lent) in
    let shut : Handle.Denot = with room n (combine places) places in
    qed 𝓛 (raw (on_entry 𝓛 f.signature κs qs a (y a.0).0.4) ∷ ‵ (closed_at a.0 room lent.1) ∷ []) ∵
    drop ! $ in_a_block ! a.0 (λ p. closed_at p room lent.1) (id⊢ 𝓤 _) (λ b o e.
    regoal ! (λ p. prop (WpFn 𝓤 𝓛.H 𝓣.C 𝓣.Λ code.function (rawptr_vals p) (W.post (y p)))) e refl $
    use1 𝓛 (some (λ (v : Val). ‵ (fat full_share (layout Handle) b o v)
    ⊛ ‵ (Handle.own_val shut (v ∷ []))))
    (part_out 𝓛 Handle refl full_share shut b o) $ pick ! (λ v. split ! $
    use1 𝓛 (‵ (froom (layout Handle) b o)) (𝓛.laws.at_room (layout Handle) b o v) $
    move ! (1 ∷ []) $ handle_out ! shut (v ∷ []) (λ is fits kind.
    use1 𝓛 (‵ (room_lies room lent.1)) (freed 𝓛 lent.1 room) $
    -- [room for the handle; room for the places]
    move ! (1 ∷ 0 ∷ []) $
    enter ! _ _ _ _ _ $ alloc_all ! (λ l. pass_all ! refl ((tt, tt), tt) $
    sets ! (of_opd ! (get ! refl)) refl (tt, tt) $
    sets ! (of_opd ! (unit_lit !)) refl (tt, tt) $
    returns ! (look_at ! 0 refl) $ free_all ! refl $
    suffices ! _ (ends_at 𝓛 f.ended stayed c (y (block_ptr b o)) vunit tt (tt, tt) (tt, tt)) $
    fjoin ! $ feq_i ! _ (vunit ∷ []) _ refl $ nothing ! $ nothing ! $ join ! $ nothing ! $
    group ! 3 $ done !)))))
