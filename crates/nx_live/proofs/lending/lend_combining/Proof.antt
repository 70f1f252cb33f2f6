-- `lend_combining` writes into the room a closed place for the families of each channel, and then
-- the handle.
use Rattle.std.proofs.Common.{◌≡◌, ◌<◌, ◌≤◌, ◌+◌, ◌-◌, ◌*◌, ◌^◌, ℕ, zero, suc, List, [], ◌∷◌, ◌++◌, length, map, refl, sym, ap, ◌∙◌, lit<, ltb→lt, nltb→le, arith}
use Rattle.std.proofs.lemmas.List.{append-nil, append_assoc, length-append, length-map, map-append}
use Rattle.std.proofs.Math.Numerals.{add-one}
use mathlib.Core.Bool.{true}
use mathlib.Core.WellFounded.InvImage
use seplogic.Ra.Ura.{Ura}
use lib.WfN.{lt-wf_rel}
use base.Fraction.{full_share}
use base.Fml.{Fml, fat, froom, ftrue}
use mir.Syntax.{Body, ty_int, w64}
use mir.Val.{Val, vint, vptr, vunit}
use base.Logic.{SProp, ent, sep, id⊢}
use prog.Memory.{Memory}
use prog.Routine.{Routine}
use prog.Wp.{Env, Out, Wp, WpFn, Tables, at_return, after_seq, after_block, after_turn}
use types.Logic.{Logic, sem}
use contract.Monad.{Fun, fact}
use contract.Running.{tables, tables_of}
use sound.WpLaws.{FmC, WpFn-mono, fm_of}
use borrow.Table.OneValue.{part_in}
use types.Kit.{Item, Sq, any_q, at_ret, runs, await, by, done, drop, feq_i, fjoin, fsplit, group, join, later, move, pick, prop, qed, raw, regoal, rewrite, some, split, suffices, use1, use2, ‵, ◌⊛◌, ◌$◌, ◌∵◌, ! }
use types.Part.{agg}
use types.Run.{again, and_then, assigns, assigns_last, Below, bin, blocks, branches, enter, exec, first, init, jumps, lit, loops, no_more, of_opd, returns, skips, stop, true_lit, unit_lit}
use types.ByLocal.{alloc_all, env, forget_but, free_all, get, give_at, holding, lands_as, look_at, pass_all, sets, sets_last, take_at, through}
use denote.Exit.{yes}
use denote.Index.{row}
use denote.Builtin.{usize}
use denote.Laws.{shows}
use denote.Memory.{mem, part_at}
use denote.Param.{layout}
use denote.Plain.{uint_vals, uint_Tells}
use denote.RawPtr.{Ptr, RawPtr, block_ptr, in_a_block, rawptr_vals, rawptr_Tells, room_at}
use denote.Signature.{plain}
use denote.Steps.{heard, nothing, peeks}
use denote.Triple.Call.{calls_at}
use denote.Triple.Clauses.{lasts}
use denote.Triple.Entry.{on_entry}
use denote.Triple.Spec.{triple_of}
use denote.Triple.Statement.{Contract, Triple}
use denote.Triple.Table.{entered}
use denote.Triple.Walked.{Stays, stay_dropped, walk_of, ends_at, walked, Goes-dropped, walk_Meets}
use Rattle.core.proofs.slots.Bodies.{after, head}
use Rattle.nx_combine.specs.FamilyPlaces.{LentFamily}
use Rattle.nx_handle.specs.CombiningPlaces.{combining_closed}
use Rattle.nx_live.specs.declared.families.LentFamilies.{LentFamilies}
use Rattle.nx_live.specs.Lending.{CombiningRoom, closed_at, families_from, families_lie, rooms_at}
use Rattle.nx_live.specs.Places.{Combining, combining_row}
use Rattle.nx_combine.specs.Families.{most_families}
use Rattle.nx_live.specs.Room.{family_row, room_for, room_from}
use Rattle.nx_live.proofs.lemmas.Calls.{is_so}
use Rattle.nx_live.proofs.lemmas.CombiningValues.{combining_laws}
use Rattle.nx_live.proofs.lemmas.FamilyValues.{Families, families_in, length_from, none_at_null, word as family_word, word_good as family_word_good}
use Rattle.nx_live.proofs.lemmas.HandleValues.{Handle, handle_in, with, word, word_good}
use Rattle.nx_live.proofs.lemmas.LentRow.{lie_in, lie_out}
use Rattle.nx_live.proofs.lemmas.PlainValues.{big}
use Rattle.nx_live.proofs.lemmas.Rows.{behind, behind_next, behind_none, row_more}
use Rattle.nx_live.specs.contracts.lending.closed as g
use Rattle.nx_live.proofs.lending.closed.Symbol.{name as #closed}
use Rattle.nx_live.proofs.lending.closed.Met as closed_thm
use Rattle.nx_live.specs.contracts.lending.lend_combining as F
use Rattle.nx_live.specs.contracts.lending.lend_combining.Key.{name as #self}
use Rattle.nx_live.proofs.lending.lend_combining.Statement as stated
use Rattle.nx_live.proofs.lending.lend_combining.Code as code

abbrev stayed : Stays F.ended.signature.params F.ended.kept
stayed = (
  stay_dropped _ yes,
  (stay_dropped _ yes, (stay_dropped _ yes, (stay_dropped _ yes, (stay_dropped _ yes, tt)))),
)

abbrev turn : Body
turn = head (head (head (after 3 code.function.body)))

abbrev s : ℕ
s = (mem combining_row).size

abbrev one : ℕ
one = (mem family_row).size

-- So far: the families of the places that are written, those that are still to come, and where
-- these lie.
record Written (all : List LentFamilies) (each fb n : ℕ) : Type 0 where
  done : List LentFamilies
  rest : List (List LentFamily)
  from : ℕ
  adds : done ++ families_from (block_ptr fb from) each rest ≡ all
  count : length done + length rest ≡ n

module _ {M : Type 1} {𝓤 : Ura M} (𝓛 : Logic 𝓤) (at_mem : Memory → SProp 𝓤) (run : Routine → Fun 𝓤)
    (𝓣 : Tables 𝓤 𝓛.H) where
  open 𝓛 use {H, A}

  abbrev Made : Contract 𝓤
  Made = triple_of 𝓛 g.signature (g.spec 𝓛 at_mem run)

  abbrev passed : Ptr → Ptr → ℕ → Ptr → ℕ
      → List Val × (List Val × (List Val × (List Val × (List Val × Unit {0}))))
  passed p r n f each =
      (rawptr_vals p, (rawptr_vals r, (uint_vals w64 n, (rawptr_vals f, (uint_vals w64 each, tt)))))

  abbrev bound : Ptr → Ptr → ℕ → Ptr → ℕ → List (List LentFamily)
      → (walk_of 𝓛 F.ended stayed (F.clauses 𝓛 at_mem run)).Ghost
  bound p r n f each held =
      ((tt, tt, tt, (p, (r, (n, (f, (each, tt))))), passed p r n f each), held)

  abbrev Goes : Ptr → Ptr → ℕ → Ptr → ℕ → List (List LentFamily) → SProp 𝓤
  Goes p r n f each held =
      WpFn 𝓤 H 𝓣.C 𝓣.Λ code.function
      (rawptr_vals p ++ (rawptr_vals r ++ (uint_vals w64 n ++ (rawptr_vals f
      ++ (uint_vals w64 each ++ [])))))
      ((walk_of 𝓛 F.ended stayed (F.clauses 𝓛 at_mem run)).post (bound p r n f each held))

  module _ (met : Triple 𝓤 (𝓣.C #closed) Made) (b o rb ro fb fo n each : ℕ)
      (held : List (List LentFamily)) (some' : 0 < n) (few : n ≤ 3) (same : length held ≡ n)
      (fe : each < 2 ^ 64) where
    abbrev Post : Val → SProp 𝓤
    Post = (walk_of 𝓛 F.ended stayed (F.clauses 𝓛 at_mem run)).post
        (bound (block_ptr b o) (block_ptr rb ro) n (block_ptr fb fo) each held)

    abbrev all : List LentFamilies
    all = families_from (block_ptr fb fo) each held

    abbrev So-far : Type 0
    So-far = Written all each fb n

    abbrev Nearer : So-far → So-far → Type 0
    Nearer t u = length t.rest < length u.rest

    module _ (l : ℕ → ℕ) where
      abbrev En : Env 𝓤 H
      En = env code.function.locals l

      abbrev Now : So-far → List (Item 𝓤)
      Now t =
          ‵ (row combining_row full_share (map combining_closed t.done) rb ro)
          ∷ ‵ (room_from combining_row (length t.rest) rb (behind s (length t.done) ro))
          ∷ ‵ (families_lie (families_from (block_ptr fb t.from) each t.rest))
          ∷ ‵ (froom (layout Handle) b o)
          ∷ holding 𝓛 En ((1, vptr b o) ∷ (2, vptr rb ro) ∷ (3, vint w64 n) ∷ (4, vptr fb fo)
          ∷ (5, vint w64 each) ∷ (6, vptr rb ro) ∷ (7, vptr fb t.from)
          ∷ (8, vint w64 (length t.done)) ∷ [])

      abbrev Turned : So-far → Out → SProp 𝓤
      Turned t =
          after_turn 𝓤 H (Below 𝓛 Nearer Now t) (after_block 𝓤 H (after_seq 𝓤 H
          (Wp 𝓤 H 𝓣.C 𝓣.Λ En (after 4 code.function.body) (at_return 𝓤 H En Post))
          (at_return 𝓤 H En Post)))

      abbrev Turns : So-far → Type 1
      Turns t = Sq 𝓛 (Now t) (runs 𝓣.C 𝓣.Λ En turn (any_q (Turned t)))

      turns_at : (written : List LentFamilies) (rest : List (List LentFamily)) (from : ℕ)
          (adds : written ++ families_from (block_ptr fb from) each rest ≡ all)
          (count : length written + length rest ≡ n)
          → Turns (record {
            done = written;
            rest = rest;
            from = from;
            adds = adds;
            count = count;
          })
      unfolding after_turn
      turns_at written [] from adds count =
          let t : So-far = record {
            done = written;
            rest = [];
            from = from;
            adds = adds;
            count = count;
          } in
          let fits : n < 2 ^ 64 = omega (arith, few) in
          let good = word_good (block_ptr rb ro) n true fits in
          let whole : written ≡ all = sym (append-nil written) ∙ adds in
          let long : length all ≡ n = ap length (sym whole) ∙ omega (arith, count) in
          let places : List combining_row.Denot = map combining_closed all in
          let made = with (block_ptr rb ro) (length all) true (Combining places) in
          sets ! (bin ! (get ! refl) (get ! refl) tt) refl (tt, tt) $ first ! $
          branches ! (get ! refl)
          (λ less. absurd (let h = ltb→lt (length written) n less in omega (arith, count, h)))
          (λ over.
          jumps ! $ exec ! 𝓣.C 𝓣.Λ En (after 4 code.function.body) (at_ret En Post) $
          rewrite ! 0
          (λ (of : List LentFamilies).
          ‵ (row combining_row full_share (map combining_closed of) rb ro)) whole refl $
          move ! (1 ∷ 2 ∷ []) $ drop ! $ drop ! $
          -- [the places; room for the handle]
          first ! $ blocks ! $
          sets ! (agg ! (and_then ! (get ! refl) (and_then ! (get ! refl)
          (and_then ! (true_lit !) (no_more !))))) refl good $
          assigns_last ! (of_opd ! (get ! refl)) (through ! refl (stop !)) (init ! 1 refl good) $
          exec ! 𝓣.C 𝓣.Λ En (after 5 code.function.body) (at_ret En Post) $
          sets ! (of_opd ! (unit_lit !)) refl (tt, tt) $
          returns ! (look_at ! 0 refl) $ free_all ! refl $
          suffices ! _ (ends_at 𝓛 F.ended stayed (F.clauses 𝓛 at_mem run)
          (bound (block_ptr b o) (block_ptr rb ro) n (block_ptr fb fo) each held) vunit tt
          (tt, (tt, (tt, (tt, (tt, tt))))) (tt, (tt, (tt, (tt, (tt, tt)))))) $
          lie_in ! combining_row 3 (block_ptr rb ro) (length all) places
          (length-map all combining_closed) (omega (arith, some', long))
          (omega (arith, few, long)) $
          handle_in ! (block_ptr rb ro) (length all) true (Combining places)
          (omega (arith, few, long)) refl $
          move ! (1 ∷ 0 ∷ []) $
          rewrite ! 0 (λ (j : ℕ). ‵ (fat full_share (layout Handle) b o
          (word (block_ptr rb ro) j true))) (sym long) refl $
          use2 𝓛 (‵ (part_at Handle full_share made b o))
          (part_in 𝓛 Handle refl full_share made b o (word (block_ptr rb ro) (length all) true)) $
          feq_i ! _ (vunit ∷ []) _ refl $ nothing ! $ nothing ! $ join ! $ nothing ! $ join ! $
          nothing ! $ join ! $ nothing ! $ join ! $ nothing ! $ join ! $ nothing ! $ group ! 3 $
          done !)
      turns_at written (h ∷ more) from adds count =
          let t : So-far = record {
            done = written;
            rest = h ∷ more;
            from = from;
            adds = adds;
            count = count;
          } in
          let k : ℕ = length written in
          let fm : k * s < 2 ^ 64 = omega (arith, few, count) in
          let fj : k + 1 < 2 ^ 64 = omega (arith, few, count) in
          sets ! (bin ! (get ! refl) (get ! refl) tt) refl (tt, tt) $ first ! $
          branches ! (get ! refl)
          (λ less.
          skips ! $ exec ! 𝓣.C 𝓣.Λ En (after 2 turn) (any_q (Turned t)) $
          move ! (1 ∷ []) $ fsplit ! $ move ! (3 ∷ []) $ fsplit ! $
          lie_out ! family_row most_families (block_ptr fb from) each h (λ long least most.
          let lent : LentFamilies = record { at = block_ptr fb from; count = each; value = h } in
          let longer : length (written ++ (lent ∷ [])) ≡ suc k =
          length-append written (lent ∷ []) ∙ add-one k in
          let longer' : length (written ++ (lent ∷ [])) + length more ≡ n =
          omega (arith, longer, count) in
          let words : List Val = family_word (block_ptr fb from) each ∷ [] in
          let fo' : each * one < 2 ^ 64 = omega (arith, most) in
          lie_in ! family_row most_families (block_ptr fb from) each h long least most $
          families_in ! (block_ptr fb from) each h fe $
          -- [the families of the channel; those behind them; room for the place; room behind it;
          -- the places before it; room for the handle]
          first ! $ blocks ! $
          sets ! (bin ! (get ! refl) (big s (lit< tt)) (record { fits = fm })) refl
          (tt, record { fits = fm }) $
          sets ! (bin ! (get ! refl) (get ! refl) tt) refl (tt, tt) $
          sets ! (agg ! (and_then ! (get ! refl) (and_then ! (get ! refl) (no_more !)))) refl
          (family_word_good (block_ptr fb from) each fe) $
          -- the call
          nothing ! $ move ! (1 ∷ 0 ∷ []) $ fjoin ! $ nothing ! $ join ! $
          is_so ! (0 < length h) (omega (arith, long, least)) $ move ! (1 ∷ 0 ∷ []) $ join ! $
          let z : Made.Ghost = ((tt, tt, tt, (lent, tt), (words, tt)), tt) in
          use1 𝓛 (raw (Made.pre z)) (id⊢ 𝓤 _) $
          calls_at ! (fm_of 𝓤 H 𝓛.laws 𝓣) Made met z (and_then ! (get ! refl) (no_more !)) (λ v.
          use1 𝓛 (later (some (λ (r : combining_row.Denot).
          (‵ ftrue ⊛ ‵ (combining_row.own_val r (v ∷ []))) ⊛
          some (λ (ws : Unit {0} × Unit {0}).
          ‵ (lasts g.ended tt z.0.3 ws) ⊛ raw (fact 𝓤 (r ≡ combining_closed lent))))))
          (id⊢ 𝓤 _) $
          await ! tt $ pick ! (λ r. split ! $ split ! $ drop ! $
          move ! (1 ∷ []) $ pick ! (λ ws. split ! $ drop ! $ heard ! _ (λ is.
          -- [the place; the families of the other channels; room for it; room behind it; ..]
          rewrite ! 0 (λ (x : combining_row.Denot). ‵ (combining_row.own_val x (v ∷ []))) is refl $
          peeks ! combining_row _ (shows 𝓛 combining_row) (combining_closed lent) (v ∷ []) (λ told.
          let good = ((combining_laws.lawful 𝓛).typed (combining_closed lent) (v ∷ []) told).0 in
          lands_as ! refl refl good $
          assigns ! (of_opd ! (get ! refl)) (through ! refl (stop !)) (init ! 2 refl good) $
          sets ! (bin ! (get ! refl) (big one (lit< tt)) (record { fits = fo' })) refl
          (tt, record { fits = fo' }) $
          sets_last ! (bin ! (get ! refl) (get ! refl) tt) refl (tt, tt) $
          exec ! 𝓣.C 𝓣.Λ En (after 3 turn) (any_q (Turned t)) $
          sets_last ! (bin ! (get ! refl) (lit ! tt) (record { fits = fj })) refl
          (tt, record { fits = fj }) $
          move ! (2 ∷ 0 ∷ []) $
          use2 𝓛 (‵ (part_at combining_row full_share (combining_closed lent) rb (behind s k ro)))
          (part_in 𝓛 combining_row refl full_share (combining_closed lent) rb (behind s k ro) v) $
          rewrite ! 0 (λ (j : ℕ). ‵ (part_at combining_row full_share (combining_closed lent) rb
          (behind s j ro))) (sym (length-map written combining_closed)) refl $
          move ! (3 ∷ 0 ∷ []) $
          use2 𝓛 (‵ (row combining_row full_share
          (map combining_closed written ++ (combining_closed lent ∷ [])) rb ro))
          (row_more 𝓛 combining_row (map combining_closed written) (combining_closed lent) rb ro) $
          rewrite ! 0
          (λ (xs : List combining_row.Denot). ‵ (row combining_row full_share xs rb ro))
          (sym (map-append combining_closed written (lent ∷ []))) refl $
          move ! (0 ∷ 2 ∷ 1 ∷ []) $
          rewrite ! 1 (λ (j : ℕ). ‵ (room_from combining_row (length more) rb j))
          (sym (behind_next s k ro)
          ∙ ap (λ j. behind s j ro) (sym longer)) refl $
          forget_but ! En (1 ∷ 2 ∷ 3 ∷ 4 ∷ 5 ∷ 6 ∷ 7 ∷ 8 ∷ []) refl $ take_at ! 8 $
          rewrite ! 0 (λ (j : ℕ). ‵ (fat full_share (ty_int w64) (l 8) zero (vint w64 j)))
          (add-one k ∙ sym longer) refl $ give_at ! 8 $
          again ! Nearer Now t (record {
            done = written ++ (lent ∷ []);
            rest = more;
            from = each * one + from;
            adds = append_assoc written (lent ∷ [])
                (families_from (block_ptr fb (each * one + from)) each more) ∙ adds;
            count = longer';
          }) (omega arith))))))))
          (λ over. absurd (let ge = nltb→le k n over in omega (arith, count, ge)))

      turns : (t : So-far) → Turns t
      turns t = turns_at t.done t.rest t.from t.adds t.count

    runs_by : ent 𝓤 (sem 𝓛 (rooms_at (block_ptr b o) (block_ptr rb ro) (CombiningRoom all)))
        (Goes (block_ptr b o) (block_ptr rb ro) n (block_ptr fb fo) each held)
    runs_by =
        let many : length all ≡ length held = length_from (block_ptr fb fo) each held in
        let fits : n < 2 ^ 64 = omega (arith, few) in
        qed 𝓛 (‵ (rooms_at (block_ptr b o) (block_ptr rb ro) (CombiningRoom all)) ∷ []) ∵
        fsplit ! $ move ! (1 ∷ []) $ fsplit ! $
        rewrite ! 0 (λ (j : ℕ). ‵ (room_from combining_row j rb ro)) many refl $
        rewrite ! 0 (λ (j : ℕ). ‵ (room_from combining_row (length held) rb j))
        (sym (behind_none s ro)) refl $
        nothing ! $
        enter ! 𝓣.C 𝓣.Λ code.function
        (vptr b o ∷ vptr rb ro ∷ vint w64 n ∷ vptr fb fo ∷ vint w64 each ∷ []) _ $
        alloc_all ! (λ l. pass_all ! refl (
          (tt, tt),
          (
            (tt, tt),
            (
              (tt, record { fits = fits }),
              (
                (tt, tt),
                ((tt, record { fits = fe }), tt),
              ),
            ),
          ),
        ) $
        sets ! (of_opd ! (get ! refl)) refl (tt, tt) $
        sets ! (of_opd ! (get ! refl)) refl (tt, tt) $
        sets ! (of_opd ! (lit ! tt)) refl (tt, record { fits = lit< tt }) $
        first ! $ blocks ! $
        loops ! 𝓣 Nearer (InvImage.wf (λ (t : So-far). length t.rest) lt-wf_rel.wf) (Now l)
        (turns l)
        (record { done = []; rest = held; from = fo; adds = refl; count = omega (arith, same) }))

  walk : Triple 𝓤 (𝓣.C #closed) Made → (p r : Ptr) (n : ℕ) (f : Ptr) (each : ℕ)
      (held : List (List LentFamily)) → 0 < n → n ≤ 3 → length held ≡ n → each < 2 ^ 64
      → ent 𝓤 (sem 𝓛 (rooms_at p r (CombiningRoom (families_from f each held))))
      (Goes p r n f each held)
  walk met p r n f each held some' few same fe =
      let room' = λ (f' : Ptr). length (families_from f' each held) in
      qed 𝓛 (‵ (rooms_at p r (CombiningRoom (families_from f each held))) ∷ []) ∵ fsplit ! $
      in_a_block ! p (λ p'. room_at Handle p') (id⊢ 𝓤 _) (λ b o e. move ! (1 ∷ []) $ fsplit ! $
      in_a_block ! r (λ r'. room_for combining_row r' (room' f)) (id⊢ 𝓤 _) (λ rb ro er.
      move ! (1 ∷ []) $
      in_a_block ! f (λ f'. families_lie (families_from f' each held))
      (none_at_null 𝓛 each held (omega (arith, some', same))) (λ fb fo ef.
      regoal ! (λ p'. prop (Goes p' r n f each held)) e refl $
      regoal ! (λ r'. prop (Goes (block_ptr b o) r' n f each held)) er refl $
      regoal ! (λ f'. prop (Goes (block_ptr b o) (block_ptr rb ro) n f' each held)) ef refl $
      move ! (1 ∷ []) $
      rewrite ! 0 (λ (f' : Ptr). ‵ (room_from combining_row (room' f') rb ro)) ef refl $
      fjoin ! $ move ! (1 ∷ 0 ∷ []) $ fjoin ! $
      by ! (runs_by met b o rb ro fb fo n each held some' few same fe))))

pub lend_combining_spec : {M : Type 1} → stated.statement M
unfolding tables_of
lend_combining_spec 𝓤 𝓛 𝓜 𝓡 wired =
    let 𝓣 : Tables 𝓤 𝓛.H = tables_of 𝓤 𝓛.H 𝓜 (tables 𝓤 𝓛.H 𝓜 𝓡 𝓡.env) in
    let held = F.clauses 𝓛 𝓜.mem 𝓡.returns in
    let ptr = Goes-dropped 𝓛 0 (plain (λ _. RawPtr)) yes (λ κs x w. refl) in
    let number = Goes-dropped 𝓛 0 (plain (λ _. usize)) yes (λ κs x w. refl) in
    entered 𝓤 𝓛.H (triple_of 𝓛 F.signature (F.spec 𝓛 𝓜.mem 𝓡.returns)) 𝓣.C 𝓣.Λ #self
    code.function (code.unfolded 𝓤 𝓛.H 𝓜 𝓡 wired)
    (walk_Meets 𝓛 F.ended stayed (ptr, (ptr, (number, (ptr, (number, tt))))) held
    (WpFn 𝓤 𝓛.H 𝓣.C 𝓣.Λ code.function) (WpFn-mono 𝓤 𝓛.H 𝓛.laws 𝓣 code.function)
    (walked 𝓛 F.ended stayed held (WpFn 𝓤 𝓛.H 𝓣.C 𝓣.Λ code.function)
    (λ κs. (rawptr_vals, (rawptr_vals, (uint_vals w64, (rawptr_vals, (uint_vals w64, tt))))))
    (λ κs. (rawptr_Tells, (rawptr_Tells, (uint_Tells w64, (rawptr_Tells, (uint_Tells w64, tt))))))
    (λ κs qs bounds a g are.
    let p = a.0 in let r = a.1.0 in let n = a.1.1.0 in let f = a.1.1.1.0 in
    let each = a.1.1.1.1.0 in
    qed 𝓛 (raw (on_entry 𝓛 F.signature κs qs a (passed 𝓛 𝓜.mem 𝓡.returns 𝓣 p r n f each))
    ∷ (raw (fact 𝓤 (0 < n)) ⊛ raw (fact 𝓤 (n ≤ 3)) ⊛ raw (fact 𝓤 (length g ≡ n))
    ⊛ ‵ (rooms_at p r (CombiningRoom (families_from f each g)))) ∷ []) ∵
    drop ! $ split ! $ heard ! _ (λ some'. split ! $ heard ! _ (λ few. split ! $
    heard ! _ (λ same.
    by ! (walk 𝓛 𝓜.mem 𝓡.returns 𝓣
    (closed_thm.met 𝓤 𝓛 𝓜 𝓡 (code.calls-nx_live::lending::closed 𝓡.env wired))
    p r n f each g some' few same are.1.1.1.1.0.1)))))))
