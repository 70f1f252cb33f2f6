-- `lend_plain` writes into the room that each place is closed, and then the handle.
use Rattle.std.proofs.Common.{◌≡◌, ◌<◌, ◌≤◌, ◌+◌, ◌-◌, ◌*◌, ◌^◌, ℕ, zero, suc, List, [], ◌∷◌, ◌++◌, length, replicate, refl, sym, ap, lit<, ltb→lt, nltb→le, arith}
use Rattle.std.proofs.lemmas.List.{length-replicate}
use Rattle.std.proofs.Math.Numerals.{add-one}
use mathlib.Core.Bool.{false}
use mathlib.Core.WellFounded.InvImage
use seplogic.Ra.Ura.{Ura}
use lib.WfN.{lt-wf_rel}
use base.Fraction.{full_share}
use base.Fml.{fat, froom}
use mir.Syntax.{Body, ty_int, w64}
use mir.Val.{Val, vint, vptr, vunit}
use base.Logic.{SProp, ent, sep, id⊢}
use prog.Memory.{Memory}
use prog.Routine.{Routine}
use prog.Wp.{Env, Out, Wp, WpFn, Tables, at_return, after_seq, after_block, after_turn}
use types.Logic.{Logic, sem}
use contract.Monad.{Fun, fact}
use contract.Running.{tables, tables_of}
use sound.WpLaws.{WpFn-mono}
use borrow.Table.OneValue.{part_in}
use types.Kit.{Item, Sq, by, any_q, runs, ‵, raw, prop, ◌⊛◌, at_ret, ◌$◌, ◌∵◌, !, qed, done, drop, move, use0, use1, use2, join, split, split3, fsplit, fjoin, feq_i, regoal, rewrite, suffices, group}
use types.Part.{agg}
use types.Run.{Below, again, assigns_last, bin, blocks, branches, enter, exec, false_lit, first, init, jumps, lit, loops, no_more, and_then, of_opd, returns, size_lit, skips, stop, unit_lit}
use types.ByLocal.{alloc_all, env, forget_but, free_all, get, give_at, holding, look_at, pass_all, sets, sets_last, take_at, through}
use denote.Exit.{yes}
use denote.Index.{row}
use denote.Builtin.{usize}
use denote.Memory.{mem, part_at}
use denote.Param.{layout}
use denote.Plain.{uint_vals, uint_Tells}
use denote.RawPtr.{Ptr, RawPtr, block_ptr, in_a_block, rawptr_vals, rawptr_Tells, room_at}
use denote.Signature.{plain}
use denote.Steps.{heard, nothing}
use denote.Triple.Entry.{on_entry}
use denote.Triple.Spec.{triple_of}
use denote.Triple.Table.{entered}
use denote.Triple.Walked.{Stays, stay_dropped, walk_of, ends_at, walked, Goes-dropped, walk_Meets}
use Rattle.core.proofs.slots.Bodies.{after, head}
use Rattle.nx_live.specs.Lending.{PlainRoom, closed_at, rooms_at}
use Rattle.nx_live.specs.Places.{Plain, plain_row}
use Rattle.nx_live.specs.Room.{room_for, room_from}
use Rattle.nx_handle.specs.declared.plain_place.PlainPlace.TheVariants.{Closed}
use Rattle.nx_live.proofs.lemmas.HandleValues.{Handle, handle_in, with, word, word_good}
use Rattle.nx_live.proofs.lemmas.LentRow.{lie_in}
use Rattle.nx_live.proofs.lemmas.PlainValues.{big, closed, closed_good, closed_of}
use Rattle.nx_live.proofs.lemmas.Rows.{behind, behind_next, behind_none, one_more_of, row_more}
use Rattle.nx_live.specs.contracts.lending.lend_plain as F
use Rattle.nx_live.specs.contracts.lending.lend_plain.Key.{name as #self}
use Rattle.nx_live.proofs.lending.lend_plain.Statement as stated
use Rattle.nx_live.proofs.lending.lend_plain.Code as code

abbrev stayed : Stays F.ended.signature.params F.ended.kept
stayed = (stay_dropped _ yes, (stay_dropped _ yes, (stay_dropped _ yes, tt)))

abbrev turn : Body
turn = head (head (head (after 2 code.function.body)))

abbrev s : ℕ
s = (mem plain_row).size

module _ {M : Type 1} {𝓤 : Ura M} (𝓛 : Logic 𝓤) (at_mem : Memory → SProp 𝓤) (run : Routine → Fun 𝓤)
    (𝓣 : Tables 𝓤 𝓛.H) where
  open 𝓛 use {H, A}

  abbrev bound : Ptr → Ptr → ℕ → (walk_of 𝓛 F.ended stayed (F.clauses 𝓛 at_mem run)).Ghost
  bound p r n =
      ((tt, tt, tt, (p, (r, (n, tt))), (rawptr_vals p, (rawptr_vals r, (uint_vals w64 n, tt)))), tt)

  abbrev Goes : Ptr → Ptr → ℕ → SProp 𝓤
  Goes p r n =
      WpFn 𝓤 H 𝓣.C 𝓣.Λ code.function
      (rawptr_vals p ++ (rawptr_vals r ++ (uint_vals w64 n ++ [])))
      ((walk_of 𝓛 F.ended stayed (F.clauses 𝓛 at_mem run)).post (bound p r n))

  module _ (b o rb ro n : ℕ) (some : 0 < n) (few : n ≤ 3) where
    abbrev Post : Val → SProp 𝓤
    Post = (walk_of 𝓛 F.ended stayed (F.clauses 𝓛 at_mem run)).post
        (bound (block_ptr b o) (block_ptr rb ro) n)

    -- how many places are written
    abbrev Written : Type 0
    Written = (k : ℕ) × (k ≤ n)

    abbrev Nearer : Written → Written → Type 0
    Nearer t u = n - t.0 < n - u.0

    module _ (l : ℕ → ℕ) where
      abbrev En : Env 𝓤 H
      En = env code.function.locals l

      abbrev Now : Written → List (Item 𝓤)
      Now t =
          ‵ (row plain_row full_share (replicate t.0 Closed) rb ro)
          ∷ ‵ (room_from plain_row (n - t.0) rb (behind s t.0 ro))
          ∷ ‵ (froom (layout Handle) b o)
          ∷ holding 𝓛 En ((1, vptr b o) ∷ (2, vptr rb ro) ∷ (3, vint w64 n) ∷ (4, vptr rb ro)
          ∷ (5, vint w64 t.0) ∷ [])

      abbrev Turned : Written → Out → SProp 𝓤
      Turned t =
          after_turn 𝓤 H (Below 𝓛 Nearer Now t) (after_block 𝓤 H (after_seq 𝓤 H
          (Wp 𝓤 H 𝓣.C 𝓣.Λ En (after 3 code.function.body) (at_return 𝓤 H En Post))
          (at_return 𝓤 H En Post)))

      turns : (t : Written) → Sq 𝓛 (Now t) (runs 𝓣.C 𝓣.Λ En turn (any_q (Turned t)))
      unfolding after_turn
      turns t =
          let k : ℕ = t.0 in
          let fits : n < 2 ^ 64 = omega (arith, few) in
          let good = word_good (block_ptr rb ro) n false fits in
          let made = with (block_ptr rb ro) n false (Plain (replicate n Closed)) in
          sets ! (bin ! (get ! refl) (get ! refl) tt) refl (tt, tt) $ first ! $
          branches ! (get ! refl)
          (λ less. let h : k < n = ltb→lt k n less in
          skips ! $ exec ! 𝓣.C 𝓣.Λ En (after 2 turn) (any_q (Turned t)) $
          let apart : n - k ≡ suc (n - suc k) = omega arith in
          let fm : k * s < 2 ^ 64 = omega (arith, few) in
          let fj : k + 1 < 2 ^ 64 = omega (arith, few) in
          rewrite ! 1 (λ (j : ℕ). ‵ (room_from plain_row j rb (behind s k ro))) apart refl $
          move ! (1 ∷ []) $ fsplit ! $
          -- [room for the place; room behind it; the places before it; room for the handle]
          first ! $ blocks ! $
          sets ! (bin ! (get ! refl) (big s (lit< tt)) (record { fits = fm })) refl
          (tt, record { fits = fm }) $
          sets ! (bin ! (get ! refl) (get ! refl) tt) refl (tt, tt) $
          sets ! (agg ! (and_then ! (lit ! tt) (no_more !))) refl closed_good $
          assigns_last ! (of_opd ! (get ! refl)) (through ! refl (stop !))
          (init ! 0 refl closed_good) $
          exec ! 𝓣.C 𝓣.Λ En (after 3 turn) (any_q (Turned t)) $
          sets_last ! (bin ! (get ! refl) (lit ! tt) (record { fits = fj })) refl
          (tt, record { fits = fj }) $
          use0 𝓛 (‵ (plain_row.own_val Closed (closed ∷ []))) (closed_of 𝓛) $
          move ! (1 ∷ 0 ∷ []) $
          use2 𝓛 (‵ (part_at plain_row full_share Closed rb (behind s k ro)))
          (part_in 𝓛 plain_row refl full_share Closed rb (behind s k ro) closed) $
          rewrite ! 0 (λ (j : ℕ). ‵ (part_at plain_row full_share Closed rb (behind s j ro)))
          (sym (length-replicate k Closed)) refl $
          move ! (2 ∷ 0 ∷ []) $
          use2 𝓛 (‵ (row plain_row full_share (replicate k Closed ++ (Closed ∷ [])) rb ro))
          (row_more 𝓛 plain_row (replicate k Closed) Closed rb ro) $
          rewrite ! 0 (λ (xs : List plain_row.Denot). ‵ (row plain_row full_share xs rb ro))
          (one_more_of k Closed) refl $
          rewrite ! 1 (λ (j : ℕ). ‵ (room_from plain_row (n - suc k) rb j))
          (sym (behind_next s k ro)) refl $
          forget_but ! En (1 ∷ 2 ∷ 3 ∷ 4 ∷ 5 ∷ []) refl $ take_at ! 5 $
          rewrite ! 0 (λ (j : ℕ). ‵ (fat full_share (ty_int w64) (l 5) zero (vint w64 j)))
          (add-one k) refl $ give_at ! 5 $
          again ! Nearer Now t (suc k, omega (arith, h)) (omega (arith, h)))
          (λ over. let all : k ≡ n = (let ge = nltb→le k n over in let le = t.1 in omega arith) in
          jumps ! $ exec ! 𝓣.C 𝓣.Λ En (after 3 code.function.body) (at_ret En Post) $
          rewrite ! 0 (λ (j : ℕ). ‵ (row plain_row full_share (replicate j Closed) rb ro)) all
          refl $
          move ! (1 ∷ []) $ drop ! $
          -- [the places; room for the handle]
          first ! $ blocks ! $
          sets ! (agg ! (and_then ! (get ! refl) (and_then ! (get ! refl)
          (and_then ! (false_lit !) (no_more !))))) refl good $
          assigns_last ! (of_opd ! (get ! refl)) (through ! refl (stop !)) (init ! 1 refl good) $
          exec ! 𝓣.C 𝓣.Λ En (after 4 code.function.body) (at_ret En Post) $
          sets ! (of_opd ! (unit_lit !)) refl (tt, tt) $
          returns ! (look_at ! 0 refl) $ free_all ! refl $
          suffices ! _ (ends_at 𝓛 F.ended stayed (F.clauses 𝓛 at_mem run)
          (bound (block_ptr b o) (block_ptr rb ro) n) vunit tt (tt, (tt, (tt, tt)))
          (tt, (tt, (tt, tt)))) $
          lie_in ! plain_row 3 (block_ptr rb ro) n (replicate n Closed) (length-replicate n Closed)
          some (omega (arith, few)) $
          handle_in ! (block_ptr rb ro) n false (Plain (replicate n Closed)) fits refl $
          move ! (1 ∷ 0 ∷ []) $
          use2 𝓛 (‵ (part_at Handle full_share made b o))
          (part_in 𝓛 Handle refl full_share made b o (word (block_ptr rb ro) n false)) $
          feq_i ! _ (vunit ∷ []) _ refl $ nothing ! $ nothing ! $ join ! $ nothing ! $ join ! $
          nothing ! $ join ! $ nothing ! $ group ! 3 $ done !)

    runs_by : ent 𝓤 (sem 𝓛 (rooms_at (block_ptr b o) (block_ptr rb ro) (PlainRoom n)))
        (Goes (block_ptr b o) (block_ptr rb ro) n)
    runs_by =
        let fits : n < 2 ^ 64 = omega (arith, few) in
        let whole : n ≡ n - 0 = omega arith in
        qed 𝓛 (‵ (rooms_at (block_ptr b o) (block_ptr rb ro) (PlainRoom n)) ∷ []) ∵
        fsplit ! $ move ! (1 ∷ 0 ∷ []) $ nothing ! $
        rewrite ! 1 (λ (j : ℕ). ‵ (room_from plain_row n rb j)) (sym (behind_none s ro)) refl $
        rewrite ! 1 (λ (j : ℕ). ‵ (room_from plain_row j rb (behind s 0 ro))) whole refl $
        enter ! 𝓣.C 𝓣.Λ code.function (vptr b o ∷ vptr rb ro ∷ vint w64 n ∷ []) _ $
        alloc_all ! (λ l. pass_all ! refl
        ((tt, tt), ((tt, tt), ((tt, record { fits = fits }), tt))) $
        sets ! (of_opd ! (get ! refl)) refl (tt, tt) $
        sets ! (of_opd ! (lit ! tt)) refl (tt, record { fits = lit< tt }) $
        first ! $ blocks ! $
        loops ! 𝓣 Nearer (InvImage.wf (λ (t : Written). n - t.0) lt-wf_rel.wf) (Now l) (turns l)
        (0, omega arith))

  walk : (p r : Ptr) (n : ℕ) → 0 < n → n ≤ 3
      → ent 𝓤 (sem 𝓛 (rooms_at p r (PlainRoom n))) (Goes p r n)
  walk p r n some few =
      qed 𝓛 (‵ (rooms_at p r (PlainRoom n)) ∷ []) ∵ fsplit ! $
      in_a_block ! p (λ p'. room_at Handle p') (id⊢ 𝓤 _) (λ b o e. move ! (1 ∷ []) $
      in_a_block ! r (λ r'. room_for plain_row r' n) (id⊢ 𝓤 _) (λ rb ro er.
      regoal ! (λ p'. prop (Goes p' r n)) e refl $
      regoal ! (λ r'. prop (Goes (block_ptr b o) r' n)) er refl $
      move ! (1 ∷ 0 ∷ []) $ fjoin ! $ by ! (runs_by b o rb ro n some few)))

pub lend_plain_spec : {M : Type 1} → stated.statement M
unfolding tables_of
lend_plain_spec 𝓤 𝓛 𝓜 𝓡 wired =
    let 𝓣 : Tables 𝓤 𝓛.H = tables_of 𝓤 𝓛.H 𝓜 (tables 𝓤 𝓛.H 𝓜 𝓡 𝓡.env) in
    let held = F.clauses 𝓛 𝓜.mem 𝓡.returns in
    let ptr = Goes-dropped 𝓛 0 (plain (λ _. RawPtr)) yes (λ κs x w. refl) in
    let word = Goes-dropped 𝓛 0 (plain (λ _. usize)) yes (λ κs x w. refl) in
    entered 𝓤 𝓛.H (triple_of 𝓛 F.signature (F.spec 𝓛 𝓜.mem 𝓡.returns)) 𝓣.C 𝓣.Λ #self
    code.function (code.unfolded 𝓤 𝓛.H 𝓜 𝓡 wired)
    (walk_Meets 𝓛 F.ended stayed (ptr, (ptr, (word, tt))) held
    (WpFn 𝓤 𝓛.H 𝓣.C 𝓣.Λ code.function) (WpFn-mono 𝓤 𝓛.H 𝓛.laws 𝓣 code.function)
    (walked 𝓛 F.ended stayed held (WpFn 𝓤 𝓛.H 𝓣.C 𝓣.Λ code.function)
    (λ κs. (rawptr_vals, (rawptr_vals, (uint_vals w64, tt))))
    (λ κs. (rawptr_Tells, (rawptr_Tells, (uint_Tells w64, tt))))
    (λ κs qs bounds a g are.
    qed 𝓛 (raw (on_entry 𝓛 F.signature κs qs a
    (rawptr_vals a.0, (rawptr_vals a.1.0, (uint_vals w64 a.1.1.0, tt))))
    ∷ (raw (fact 𝓤 (0 < a.1.1.0)) ⊛ raw (fact 𝓤 (a.1.1.0 ≤ 3))
    ⊛ ‵ (rooms_at a.0 a.1.0 (PlainRoom a.1.1.0))) ∷ []) ∵
    drop ! $ split3 ! $ heard ! _ (λ some. heard ! _ (λ few.
    by ! (walk 𝓛 𝓜.mem 𝓡.returns 𝓣 a.0 a.1.0 a.1.1.0 some few))))))
