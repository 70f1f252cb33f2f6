-- `nx_live_lend_1` lends the room of one channel.
use Rattle.std.proofs.Common.{◌<◌, ◌≤◌, List, [], ◌∷◌, refl, ap, lit<, lit≤}
use base.Fml.{ftrue}
use base.Logic.{id⊢}
use mir.Syntax.{place, w64}
use mir.Val.{Val, vunit}
use contract.Running.{tables}
use types.Kit.{‵, raw, ◌⊛◌, some, later, ◌$◌, ◌∵◌, !, qed, await, done, drop, feq_i, feq_l, fjoin, group, join, pick, regoal, split, suffices, use1, at_ret, settles}
use types.Run.{blocks, enter, exec, first, lit, of_opd, unit_lit, no_more, and_then, returns}
use types.ByLocal.{alloc_all, pass_all, free_all, env, look_at, get, sets, lands_last}
use denote.Builtin.{unit, usize}
use denote.Exit.{yes}
use denote.Plain.{uint_Makes, uint_vals}
use denote.RawPtr.{RawPtr, rawptr_Lawful, rawptr_Tells, rawptr_vals}
use denote.Signature.{plain}
use denote.Steps.{nothing, only, owned}
use denote.Triple.Call.{calls_at_last}
use denote.Triple.Clauses.{lasts}
use denote.Triple.Entry.{on_entry}
use denote.Triple.Spec.{triple_of}
use denote.Triple.Table.{framed}
use denote.Triple.Walked.{Goes-dropped, Stays, ends_at, stay_dropped, walk_of}
use Rattle.core.proofs.slots.Bodies.{after}
use Rattle.std.proofs.raw_atomic.Walks.{proved}
use Rattle.nx_live.specs.Lending.{PlainRoom, closed_at, rooms_at}
use Rattle.nx_live.proofs.lemmas.Calls.{is_so, out_of_block}
use Rattle.nx_live.specs.contracts.lending.lend_plain as g
use Rattle.nx_live.proofs.lending.lend_plain.Met.{met}
use Rattle.nx_live.specs.contracts.lending.nx_live_lend_1 as f
use Rattle.nx_live.proofs.lending.nx_live_lend_1.Statement.{statement}
use Rattle.nx_live.proofs.lending.nx_live_lend_1.Code as code

abbrev stayed : Stays f.ended.signature.params f.ended.kept
stayed = (stay_dropped _ yes, (stay_dropped _ yes, tt))

pub nx_live_lend_1_spec : {M : Type 1} → statement M
nx_live_lend_1_spec 𝓤 𝓛 𝓜 𝓡 wired =
    let c = f.clauses 𝓛 𝓜.mem 𝓡.returns in let W = walk_of 𝓛 f.ended stayed c in
    let 𝓣 = tables 𝓤 𝓛.H 𝓜 𝓡 𝓡.env in
    let goes = Goes-dropped 𝓛 0 (plain (λ _. RawPtr)) yes (λ κs x w. refl) in
    proved 𝓛 f.ended stayed c 𝓜 𝓡 (goes, (goes, tt))
    f.Key.name code.function (code.unfolded 𝓤 𝓛.H 𝓜 𝓡 wired)
    (λ κs. (rawptr_vals, (rawptr_vals, tt))) (λ κs. (rawptr_Tells, (rawptr_Tells, tt)))
    (λ κs qs bounds a n are.
    let p = a.0 in let r = a.1.0 in
    let G = triple_of 𝓛 g.signature (g.spec 𝓛 𝓜.mem 𝓡.returns) in
    let y : W.Ghost = ((κs, qs, bounds, a, (rawptr_vals p, (rawptr_vals r, tt))), n) in
    let z : G.Ghost = (
      (κs, qs, bounds, (p, (r, (1, tt))), (rawptr_vals p, (rawptr_vals r, (uint_vals w64 1, tt)))),
      tt,
    ) in
    qed 𝓛 (raw (on_entry 𝓛 f.signature κs qs a y.0.4) ∷ ‵ (rooms_at p r (PlainRoom 1)) ∷ []) ∵
    drop ! $ enter ! _ _ _ _ _ $
    alloc_all ! (λ l. let En = env code.function.locals l in pass_all ! refl (
      ((rawptr_Lawful 𝓛).typed p _ refl).0,
      (((rawptr_Lawful 𝓛).typed r _ refl).0, tt),
    ) $
    is_so ! (1 ≤ 3) (lit≤ tt) $ join ! $ is_so ! (0 < 1) (lit< tt) $ join ! $
    nothing ! $ owned ! usize _ (uint_Makes 𝓛 w64) 1 _ (refl, lit< tt) $ fjoin ! $
    feq_i ! (List Val) (rawptr_vals r) _ refl $ fjoin ! $
    feq_i ! (List Val) (rawptr_vals p) _ refl $ fjoin ! $ nothing ! $ join ! $ join ! $
    use1 𝓛 (raw (G.pre z)) (id⊢ 𝓤 _) $
    first ! $ blocks ! $
    calls_at_last ! (framed 𝓤 𝓛.H 𝓜 (tables 𝓤 𝓛.H 𝓜 𝓡 𝓡.env)) G
    (met 𝓤 𝓛 𝓜 𝓡 (code.calls-nx_live::lending::lend_plain 𝓡.env wired)) z
    (and_then ! (get ! refl) (and_then ! (get ! refl) (and_then ! (lit ! tt) (no_more !)))) (λ v.
    use1 𝓛 (later (some (λ (u : Unit {0}). (‵ ftrue ⊛ ‵ (unit.own_val u (v ∷ []))) ⊛
    some (λ (ws : Unit {0} × (Unit {0} × (Unit {0} × Unit {0}))).
    ‵ (lasts g.ended κs z.0.3 ws) ⊛ ‵ (closed_at p r (PlainRoom 1)))))) (id⊢ 𝓤 _) $
    await ! tt $ pick ! (λ u. split ! $ split ! $ drop ! $ feq_l ! (λ is_unit.
    pick ! (λ ws. split ! $ drop ! $
    regoal ! (λ (w : Val). settles En (place 3 []) w (out_of_block 𝓛 𝓣.C 𝓣.Λ En
    (after 1 code.function.body) (at_ret En (W.post y)))) (ap only is_unit) refl $
    lands_last ! refl (tt, tt) $
    exec ! 𝓣.C 𝓣.Λ En (after 1 code.function.body) (at_ret En (W.post y)) $
    sets ! (of_opd ! (unit_lit !)) refl (tt, tt) $
    returns ! (look_at ! 0 refl) $ free_all ! refl $
    suffices ! _ (ends_at 𝓛 f.ended stayed c y vunit tt (tt, (tt, tt)) (tt, (tt, tt))) $
    feq_i ! _ (vunit ∷ []) _ refl $ nothing ! $ nothing ! $ join ! $ nothing ! $ join ! $
    nothing ! $ group ! 3 $ done !))))))
