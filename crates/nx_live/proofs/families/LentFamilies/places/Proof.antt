-- `places` lends what lies in the room, and the families follow it.
use Rattle.std.proofs.Common.{◌≡◌, ◌<◌, ◌≤◌, ◌^◌, ◌*◌, ℕ, List, [], ◌∷◌, length, refl, sym, ◌∙◌, arith}
use seplogic.Ra.Ura.{Ura}
use base.Fraction.{full_share}
use mir.Syntax.{named}
use mir.Val.{Val}
use base.Logic.{SProp, ent, sep, emp, via, fst∗}
use base.Fml.{Lft, GName, Share, ftrue, flft}
use prog.Memory.{Memory}
use prog.Routine.{Routine}
use prog.Wp.{Env, Calls, Loops, WpFn, Tables}
use types.Logic.{Logic, sem}
use sound.WpLaws.{WpFn-mono}
use contract.Monad.{Fun}
use contract.Running.{tables, tables_of}
use types.Kit.{‵, ◌⊛◌, some, at_ret, ◌$◌, ◌∵◌, !, qed, by, move, keep, use1, drop, split, join, pick, fsplit, fsplit3, fjoin, suffices, frame, done, raw, later, await, group, rewrite}
use types.Part.{whole, sub, look_in, agg}
use types.Run.{stop, fld, load, of_opd, first, blocks, exec, returns, enter, and_then, no_more}
use types.ByLocal.{alloc_all, pass_all, free_all, look_at, get, through, sets, env, sets_last}
use denote.RattleType.{owns}
use denote.Memory.{mem}
use denote.Index.{row}
use denote.RawPtr.{Ptr, block_ptr}
use denote.Ref.{MutBor, MutRef, mut_vals, mut_Tells}
use denote.Signature.{plain, mut_ref_to}
use denote.Slice.{MutSlice, slice_val}
use denote.Steps.{nothing}
use denote.Triple.Entry.{on_entry}
use denote.Triple.Spec.{triple_of}
use denote.Triple.Table.{entered}
use denote.Triple.Walked.{Stays, stay_dropped, walk_of, ends_at, walked, walk_Meets, Goes-spent_ref}
use denote.Exit.{no}
use Rattle.core.proofs.alloc.Shapes.{after}
use Rattle.core.proofs.mem.Facts.{says_two}
use Rattle.nx_combine.specs.Families.{most_families}
use Rattle.nx_live.specs.Room.{family_row}
use Rattle.nx_live.specs.Lending.{LendsFamilies}
use Rattle.nx_live.proofs.lemmas.LentRow.{IsLent, lends_row, lie_in}
use Rattle.nx_live.proofs.lemmas.FamilyValues.{Families, families_in, families_open, with, word}
use Rattle.nx_live.specs.contracts.families.LentFamilies.places as F
use Rattle.nx_live.specs.contracts.families.LentFamilies.places.Key.{name as #self}
use Rattle.nx_live.proofs.families.LentFamilies.places.Statement as stated
use Rattle.nx_live.proofs.families.LentFamilies.places.Code as code

abbrev stayed : Stays F.ended.signature.params F.ended.kept
stayed = (stay_dropped (mut_ref_to (0 ∷ []) tt (plain (λ _. Families))) no, tt)

module _ {M : Type 1} {𝓤 : Ura M} (𝓛 : Logic 𝓤) (at_mem : Memory → SProp 𝓤) (run : Routine → Fun 𝓤)
    (κ : Lft) (q : Share) (rb ro : ℕ) (γ : GName) (h : Families.Denot) where
  open 𝓛 use {H, A}

  abbrev self : MutBor Families.Denot
  self = record { ref_ptr = (rb, ro); ghost_name = γ; now = h }

  abbrev bound : (walk_of 𝓛 F.ended stayed (F.clauses 𝓛 at_mem run)).Ghost
  bound = (((κ, tt), (q, tt), tt, (self, tt), (mut_vals self, tt)), tt)

  abbrev Post : Val → SProp 𝓤
  Post = (walk_of 𝓛 F.ended stayed (F.clauses 𝓛 at_mem run)).post bound

  exits : (b o : ℕ) → length h.value ≡ h.count → 0 < h.count → h.count ≤ most_families
      → (γ' : GName)
      → ent 𝓤 (sep 𝓤
      (sem 𝓛 ((MutSlice (named 0) κ family_row).own_val
      (record { ref_ptr = (b, o); ghost_name = γ'; now = h.value })
      (slice_val (b, o) (length h.value) ∷ [])))
      (sep 𝓤 (A.lft κ q)
      (sem 𝓛 (LendsFamilies self (record { ref_ptr = (b, o); ghost_name = γ'; now = h.value })))))
      (Post (slice_val (b, o) h.count))
  exits b o long least few γ' =
      let r : MutBor (List family_row.Denot) =
      record { ref_ptr = (b, o); ghost_name = γ'; now = h.value } in
      qed 𝓛 (‵ ((MutSlice (named 0) κ family_row).own_val r
      (slice_val (b, o) (length h.value) ∷ [])) ∷ ‵ (flft κ q) ∷ ‵ (LendsFamilies self r) ∷ []) ∵
      rewrite ! 0 (λ (j : ℕ). ‵ ((MutSlice (named 0) κ family_row).own_val r
      (slice_val (b, o) j ∷ []))) long refl $
      suffices ! _ (ends_at 𝓛 F.ended stayed (F.clauses 𝓛 at_mem run) bound
      (slice_val (b, o) h.count) r (tt, tt) (tt, tt)) $
      nothing ! $ nothing ! $ fjoin ! $ join ! $ nothing ! $ move ! (2 ∷ 0 ∷ []) $ join ! $
      join ! $ frame ! $
      says_two ! (refl, (omega (arith, long, least), omega (arith, long, few))) $ done !

  module _ (C : Calls 𝓤 H) (Λ : Loops 𝓤 H) where
    walk : ent 𝓤 (on_entry 𝓛 F.signature (κ, tt) (q, tt) (self, tt) (mut_vals self, tt))
        (WpFn 𝓤 H C Λ code.function (mut_vals self) Post)
    walk =
        qed 𝓛 ((‵ (flft κ q) ⊛ ‵ ftrue)
        ∷ ‵ (owns (MutRef (named 0) κ Families ∷ []) (self, tt) (mut_vals self, tt)) ∷ []) ∵
        enter ! C Λ code.function (mut_vals self) _ $
        alloc_all ! (λ l. pass_all ! refl ((tt, tt), tt) $
        let En : Env 𝓤 H = env code.function.locals l in
        move ! (1 ∷ []) $ fsplit ! $ fsplit3 ! $ drop ! $ move ! (3 ∷ []) $ split ! $
        move ! (2 ∷ 3 ∷ 0 ∷ []) $
        families_open ! tt h rb ro (λ b o at_b long least few.
        let fits : h.count < 2 ^ 64 = omega (arith, few) in
        let small : length h.value < 2 ^ 64 = omega (arith, long, few) in
        let fitting : length h.value * (mem family_row).size < 2 ^ 63 = omega (arith, long, few) in
        let words = word (block_ptr b o) h.count ∷ [] in
        let left = λ (ws : List family_row.Denot). with h.at h.count ws in
        let put = λ (ws : List family_row.Denot) (same : length ws ≡ length h.value).
        qed 𝓛 (‵ (row family_row full_share ws b o) ∷ []) ∵
        lie_in ! family_row most_families (block_ptr b o) h.count ws (same ∙ long) least few $
        families_in ! (block_ptr b o) h.count ws fits $
        rewrite ! 0 (λ (p : Ptr). ‵ (Families.own_val (with p h.count ws) words)) (sym at_b) refl $
        done ! in
        first ! $ blocks ! $
        sets ! (of_opd ! (load ! (through ! refl (fld ! refl (stop !)))
        (look_in ! 1 (sub ! 0 refl (whole !))))) refl (tt, tt) $
        sets ! (of_opd ! (load ! (through ! refl (fld ! refl (stop !)))
        (look_in ! 1 (sub ! 1 refl (whole !))))) refl (tt, record { fits = fits }) $
        sets_last ! (agg ! (and_then ! (get ! refl) (and_then ! (get ! refl) (no_more !)))) refl
        (tt, (tt, (record { fits = fits }, tt))) $
        exec ! C Λ En (after 1 code.function.body) (at_ret En Post) $
        sets ! (of_opd ! (get ! refl)) refl (tt, (tt, (record { fits = fits }, tt))) $
        -- [the row; the words; the open borrow; obs; auth]
        move ! (2 ∷ 3 ∷ 4 ∷ 0 ∷ 1 ∷ []) $ group ! 5 $
        use1 𝓛 (later (some (λ (γ' : GName).
        raw (IsLent 𝓛 Families family_row left words κ q rb ro γ b o h.value small fitting put
        γ'))))
        (lends_row 𝓛 Families family_row left words κ q rb ro γ b o h.value small fitting put h) $
        await ! tt $ pick ! (λ γ'.
        returns ! (look_at ! 0 refl) $ free_all ! refl $
        keep ! (0 ∷ []) $ by ! (exits b o long least (omega (arith, few)) γ'))))

pub places_spec : {M : Type 1} → stated.statement M
unfolding tables_of
places_spec 𝓤 𝓛 𝓜 𝓡 wired =
    let 𝓣 : Tables 𝓤 𝓛.H = tables_of 𝓤 𝓛.H 𝓜 (tables 𝓤 𝓛.H 𝓜 𝓡 𝓡.env) in
    let held = F.clauses 𝓛 𝓜.mem 𝓡.returns in
    entered 𝓤 𝓛.H (triple_of 𝓛 F.signature (F.spec 𝓛 𝓜.mem 𝓡.returns)) 𝓣.C 𝓣.Λ #self
    code.function (code.unfolded 𝓤 𝓛.H 𝓜 𝓡 wired)
    (walk_Meets 𝓛 F.ended stayed (Goes-spent_ref 𝓛 1 (0 ∷ []) tt (plain (λ _. Families)), tt) held
    (WpFn 𝓤 𝓛.H 𝓣.C 𝓣.Λ code.function) (WpFn-mono 𝓤 𝓛.H 𝓛.laws 𝓣 code.function)
    (walked 𝓛 F.ended stayed held (WpFn 𝓤 𝓛.H 𝓣.C 𝓣.Λ code.function) (λ κs. (mut_vals, tt))
    (λ κs. (mut_Tells (named 0) κs.0 Families, tt))
    (λ κs qs bounds a g are. via 𝓤 _ (fst∗ 𝓤 _ (emp 𝓤)) (walk 𝓛 𝓜.mem 𝓡.returns κs.0 qs.0
    a.0.ref_ptr.0 a.0.ref_ptr.1 a.0.ghost_name a.0.now 𝓣.C 𝓣.Λ))))
