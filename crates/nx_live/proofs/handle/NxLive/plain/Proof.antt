-- `plain` lends what lies in the room, plain places, and the receiver follows it.
use Rattle.std.proofs.Common.{◌≡◌, ◌<◌, ◌≤◌, ◌^◌, ◌*◌, ℕ, Bool, false, List, [], ◌∷◌, length, refl, sym, ◌∙◌, arith}
use seplogic.Ra.Ura.{Ura}
use base.Fraction.{full_share}
use mir.Syntax.{named}
use mir.Val.{Val}
use base.Logic.{SProp, ent, sep, never, id⊢}
use base.Fml.{Lft, GName, Share, Fml, ftrue, flft}
use prog.Memory.{Memory}
use prog.Routine.{Routine}
use prog.Wp.{Env, Calls, Loops, WpFn, Tables}
use types.Logic.{Logic, sem}
use sound.WpLaws.{WpFn-mono}
use contract.Monad.{Fun}
use contract.Running.{tables, tables_of}
use types.Kit.{‵, ◌⊛◌, some, at_ret, ◌$◌, ◌∵◌, !, qed, by, move, keep, use1, drop, split, join, pick, fsplit, fsplit3, fjoin, suffices, frame, done, raw, later, await, group, rewrite}
use types.Part.{whole, sub, look_in, agg}
use types.Run.{stop, fld, load, of_opd, first, blocks, exec, returns, enter, and_then, no_more}
use types.ByLocal.{alloc_all, pass_all, free_all, look_at, get, through, sets, env, sets_last}
use denote.RattleType.{owns}
use denote.Memory.{mem, cell_at}
use denote.Index.{row}
use denote.RawPtr.{Ptr, block_ptr, in_a_block}
use denote.Ref.{MutBor, MutRef, mut_vals, mut_Tells}
use denote.Signature.{plain, mut_ref_to}
use denote.Slice.{MutSlice, slice_val}
use denote.Steps.{nothing}
use denote.Triple.Entry.{on_entry}
use denote.Triple.Spec.{triple_of}
use denote.Triple.Table.{entered}
use denote.Triple.Walked.{Stays, needs, stay_dropped, walk_of, ends_at, walked, walk_Meets, Goes-spent_ref}
use denote.Exit.{no}
use Rattle.core.proofs.alloc.Shapes.{after}
use Rattle.core.proofs.mem.Facts.{says_two}
use Rattle.nx_live.specs.Places.{Places, Plain, combine, plain_of, plain_row, lie_there}
use Rattle.nx_live.specs.Room.{in_a_row}
use Rattle.nx_live.specs.Lending.{LendsPlain}
use Rattle.nx_live.proofs.lemmas.LentRow.{IsLent, lends_row, lie_in, lie_out}
use Rattle.nx_live.proofs.lemmas.HandleValues.{Handle, handle_in, handle_opens, is_plain, with, word}
use Rattle.nx_live.specs.contracts.handle.NxLive.plain as F
use Rattle.nx_live.specs.contracts.handle.NxLive.plain.Key.{name as #self}
use Rattle.nx_live.proofs.handle.NxLive.plain.Statement as stated
use Rattle.nx_live.proofs.handle.NxLive.plain.Code as code

abbrev stayed : Stays F.ended.signature.params F.ended.kept
stayed = (stay_dropped (mut_ref_to (0 ∷ []) tt (plain (λ _. Handle))) no, tt)

module _ {M : Type 1} {𝓤 : Ura M} (𝓛 : Logic 𝓤) (at_mem : Memory → SProp 𝓤) (run : Routine → Fun 𝓤)
    (κ : Lft) (q : Share) (rb ro : ℕ) (γ : GName) (h : Handle.Denot) where
  open 𝓛 use {H, A}

  abbrev self : MutBor Handle.Denot
  self = record { ref_ptr = (rb, ro); ghost_name = γ; now = h }

  abbrev xs : List plain_row.Denot
  xs = plain_of h.value

  abbrev bound : (walk_of 𝓛 F.ended stayed (F.clauses 𝓛 at_mem run)).Ghost
  bound = (((κ, tt), (q, tt), tt, (self, tt), (mut_vals self, tt)), tt)

  abbrev Post : Val → SProp 𝓤
  Post = (walk_of 𝓛 F.ended stayed (F.clauses 𝓛 at_mem run)).post bound

  exits : (b o : ℕ) → length xs ≡ h.count → 0 < h.count → h.count ≤ 3 → (γ' : GName)
      → ent 𝓤 (sep 𝓤
      (sem 𝓛 ((MutSlice (named 0) κ plain_row).own_val
      (record { ref_ptr = (b, o); ghost_name = γ'; now = xs })
      (slice_val (b, o) (length xs) ∷ [])))
      (sep 𝓤 (A.lft κ q)
      (sem 𝓛 (LendsPlain self (record { ref_ptr = (b, o); ghost_name = γ'; now = xs })))))
      (Post (slice_val (b, o) h.count))
  exits b o long least few γ' =
      let r : MutBor (List plain_row.Denot) =
      record { ref_ptr = (b, o); ghost_name = γ'; now = xs } in
      qed 𝓛 (‵ ((MutSlice (named 0) κ plain_row).own_val r (slice_val (b, o) (length xs) ∷ []))
      ∷ ‵ (flft κ q) ∷ ‵ (LendsPlain self r) ∷ []) ∵
      rewrite ! 0 (λ (j : ℕ). ‵ ((MutSlice (named 0) κ plain_row).own_val r
      (slice_val (b, o) j ∷ []))) long refl $
      suffices ! _ (ends_at 𝓛 F.ended stayed (F.clauses 𝓛 at_mem run) bound
      (slice_val (b, o) h.count) r (tt, tt) (tt, tt)) $
      nothing ! $ nothing ! $ fjoin ! $ join ! $ nothing ! $ move ! (2 ∷ 0 ∷ []) $ join ! $
      join ! $ frame ! $
      says_two ! (refl, (omega (arith, long, least), omega (arith, long, few))) $ done !

  module _ (C : Calls 𝓤 H) (Λ : Loops 𝓤 H) (is : combine h.value ≡ false) where
    walk : ent 𝓤 (on_entry 𝓛 F.signature (κ, tt) (q, tt) (self, tt) (mut_vals self, tt))
        (WpFn 𝓤 H C Λ code.function (mut_vals self) Post)
    walk =
        qed 𝓛 ((‵ (flft κ q) ⊛ ‵ ftrue)
        ∷ ‵ (owns (MutRef (named 0) κ Handle ∷ []) (self, tt) (mut_vals self, tt)) ∷ []) ∵
        enter ! C Λ code.function (mut_vals self) _ $
        alloc_all ! (λ l. pass_all ! refl ((tt, tt), tt) $
        let En : Env 𝓤 H = env code.function.locals l in
        move ! (1 ∷ []) $ fsplit ! $ fsplit3 ! $ drop ! $ move ! (3 ∷ []) $ split ! $
        move ! (2 ∷ 3 ∷ 0 ∷ []) $
        handle_opens ! tt h rb ro (λ fits kind.
        rewrite ! 0 (λ (places : Places). ‵ (lie_there h.at h.count places))
        (is_plain h.value is) refl $
        lie_out ! plain_row 3 h.at h.count xs (λ long least few.
        in_a_block ! h.at (λ p. in_a_row plain_row p xs) (id⊢ 𝓤 (never 𝓤)) (λ b o at_b.
        let words = word (block_ptr b o) h.count h.combines ∷ [] in
        rewrite ! 1
        (λ (p : Ptr). ‵ (cell_at full_share Handle.mir (word p h.count h.combines ∷ []) rb ro))
        at_b refl $
        let small : length xs < 2 ^ 64 = omega (arith, long, few) in
        let fitting : length xs * (mem plain_row).size < 2 ^ 63 = omega (arith, long, few) in
        let left = λ (ws : List plain_row.Denot). with h.at h.count h.combines (Plain ws) in
        let put = λ (ws : List plain_row.Denot) (same : length ws ≡ length xs).
        qed 𝓛 (‵ (row plain_row full_share ws b o) ∷ []) ∵
        lie_in ! plain_row 3 (block_ptr b o) h.count ws (same ∙ long) least few $
        handle_in ! (block_ptr b o) h.count h.combines (Plain ws) fits (kind ∙ is) $
        rewrite ! 0
        (λ (p : Ptr). ‵ (Handle.own_val (with p h.count h.combines (Plain ws)) words))
        (sym at_b) refl $ done ! in
        first ! $ blocks ! $
        sets ! (of_opd ! (load ! (through ! refl (fld ! refl (stop !)))
        (look_in ! 1 (sub ! 0 refl (whole !))))) refl (tt, tt) $
        sets ! (of_opd ! (get ! refl)) refl (tt, tt) $
        sets ! (of_opd ! (load ! (through ! refl (fld ! refl (stop !)))
        (look_in ! 1 (sub ! 1 refl (whole !))))) refl (tt, record { fits = fits }) $
        sets_last ! (agg ! (and_then ! (get ! refl) (and_then ! (get ! refl) (no_more !)))) refl
        (tt, (tt, (record { fits = fits }, tt))) $
        exec ! C Λ En (after 1 code.function.body) (at_ret En Post) $
        sets ! (of_opd ! (get ! refl)) refl (tt, (tt, (record { fits = fits }, tt))) $
        -- [the row; the words; the open borrow; obs; auth]
        move ! (2 ∷ 3 ∷ 4 ∷ 0 ∷ 1 ∷ []) $ group ! 5 $
        use1 𝓛 (later (some (λ (γ' : GName).
        raw (IsLent 𝓛 Handle plain_row left words κ q rb ro γ b o xs small fitting put γ'))))
        (lends_row 𝓛 Handle plain_row left words κ q rb ro γ b o xs small fitting put h) $
        await ! tt $ pick ! (λ γ'.
        returns ! (look_at ! 0 refl) $ free_all ! refl $
        keep ! (0 ∷ []) $ by ! (exits b o long least (omega (arith, few)) γ'))))))

pub plain_spec : {M : Type 1} → stated.statement M
unfolding tables_of
plain_spec 𝓤 𝓛 𝓜 𝓡 wired =
    let 𝓣 : Tables 𝓤 𝓛.H = tables_of 𝓤 𝓛.H 𝓜 (tables 𝓤 𝓛.H 𝓜 𝓡 𝓡.env) in
    let held = F.clauses 𝓛 𝓜.mem 𝓡.returns in
    entered 𝓤 𝓛.H (triple_of 𝓛 F.signature (F.spec 𝓛 𝓜.mem 𝓡.returns)) 𝓣.C 𝓣.Λ #self
    code.function (code.unfolded 𝓤 𝓛.H 𝓜 𝓡 wired)
    (walk_Meets 𝓛 F.ended stayed (Goes-spent_ref 𝓛 1 (0 ∷ []) tt (plain (λ _. Handle)), tt) held
    (WpFn 𝓤 𝓛.H 𝓣.C 𝓣.Λ code.function) (WpFn-mono 𝓤 𝓛.H 𝓛.laws 𝓣 code.function)
    (walked 𝓛 F.ended stayed held (WpFn 𝓤 𝓛.H 𝓣.C 𝓣.Λ code.function) (λ κs. (mut_vals, tt))
    (λ κs. (mut_Tells (named 0) κs.0 Handle, tt))
    (λ κs qs bounds a g are. needs 𝓤 (combine a.0.now.value ≡ false) _
    (walk 𝓛 𝓜.mem 𝓡.returns κs.0 qs.0
    a.0.ref_ptr.0 a.0.ref_ptr.1 a.0.ghost_name a.0.now 𝓣.C 𝓣.Λ))))
