use Rattle.std.proofs.Common.{List, ℕ, [], ◌∷◌, ◌++◌, sym, subst, ◌∙◌}
use Rattle.std.proofs.lemmas.Bool.{true≢false}
use Rattle.std.proofs.lemmas.Bool.Decides.{Decides-eqb}
use Rattle.std.proofs.lemmas.Slice.Eq.{slice_eq-Decides}
use Rattle.nx_memory.specs.StateText.{IsStateText, BeginsNoText}
use Rattle.nx_memory.proofs.lemmas.StateTexts.{whole, no_end}
use Rattle.nx_memory.proofs.state.state_reader.StateReader.ended.Goals as goal
use Rattle.nx_memory.proofs.state.state_reader.StateReader.ended.Goals.{
  else-may_end-via-then-may_end+else-eq,
}
use Rattle.nx_memory.proofs.state.state_reader.StateReader.ended.Goals.{else-may_end-via-else-may_end}

pub returns-then-eq : goal.returns-then-eq
returns-then-eq c =
    let end = (slice_eq-Decides Decides-eqb _ _ _ c.eq.ensures).0 c.if-eq.true
    ∙ c.as_slice.ensures in
    let may = sym c.may_end.ensures ∙ c.if-may_end.true in
    subst (λ (l : List (List ℕ)). IsStateText (l ++ c.args.line.now ∷ []) c.self.inside.states)
    c.self.view_is (whole c.self.inside.stage c.self.inside.states c.args.line.now
    c.self.invariant may end)

pub returns : goal.returns
returns c end =
    subst (λ (l : List (List ℕ)). BeginsNoText (l ++ c.args.line.now ∷ [])) c.self.view_is
    (elim c.else-may_end.branch [
      | else-may_end-via-then-may_end+else-eq w ↦
          absurd (true≢false (sym ((slice_eq-Decides Decides-eqb _ _ _ w.eq.ensures).1
          (end ∙ sym w.as_slice.ensures)) ∙ w.if-eq.false))
      | else-may_end-via-else-may_end w ↦
          no_end c.self.inside.stage c.self.inside.states c.args.line.now
          (sym c.may_end.ensures ∙ w.if-may_end.false) end
    ])
