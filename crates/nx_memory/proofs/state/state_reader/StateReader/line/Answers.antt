use Rattle.std.proofs.Common.{◌≡◌, ◌≢◌, ℕ, true, List, [], ◌∷◌, ◌++◌, codes, sym, ap, subst, ◌∙◌}
use Rattle.std.proofs.lemmas.Bool.{true≢false}
use Rattle.std.proofs.lemmas.Bool.Decides.{Decides-eqb}
use Rattle.std.proofs.lemmas.Slice.Eq.{slice_eq-Decides}
use Rattle.nx_memory.specs.Saved.{SavedStates}
use Rattle.nx_memory.specs.StateText.{IsStateText, BeginsNoText}
use Rattle.nx_memory.specs.private.StateReading.{may_end}
use Rattle.nx_memory.proofs.lemmas.StateTexts.{opens, begins, new_begins, whole, no_text}
use Rattle.nx_memory.proofs.state.state_reader.StateReader.line.Goals as goal
use Rattle.nx_memory.proofs.state.state_reader.StateReader.line.Goals.{
  else-may_end-via-then-may_end+else-eq,
}
use Rattle.nx_memory.proofs.state.state_reader.StateReader.line.Goals.{else-may_end-via-else-may_end}

pub returns-in-Some-clause-more : goal.returns-in-Some-clause-more
returns-in-Some-clause-more c =
    let opened = opens c.self.inside.stage c.self.inside.states c.args.line.now c.in-Some.stage
    c.self.invariant c.in-Some.ensures in
    opened.lines ∙ ap (λ (l : List (List ℕ)). l ++ c.args.line.now ∷ []) c.self.view_is

pub returns-in-Some-clause-begins : goal.returns-in-Some-clause-begins
returns-in-Some-clause-begins c =
    let opened = opens c.self.inside.stage c.self.inside.states c.args.line.now c.in-Some.stage
    c.self.invariant c.in-Some.ensures in
    begins c.in-Some.stage c.self.inside.states opened.reading

pub returns-then-eq-clause-begins : goal.returns-then-eq-clause-begins
returns-then-eq-clause-begins c = new_begins

pub returns-then-eq-clause-done : goal.returns-then-eq-clause-done
returns-then-eq-clause-done c =
    let end = (slice_eq-Decides Decides-eqb _ _ _ c.eq.ensures).0 c.if-eq.true
    ∙ c.as_slice.ensures in
    let may = sym c.may_end.ensures ∙ c.if-may_end.true in
    subst (λ (states : SavedStates). IsStateText (c.args.self.now ++ c.args.line.now ∷ []) states)
    (sym c.replace.ensures.value)
    (subst (λ (l : List (List ℕ)). IsStateText (l ++ c.args.line.now ∷ []) c.self.inside.states)
    c.self.view_is (whole c.self.inside.stage c.self.inside.states c.args.line.now
    c.self.invariant may end))

pub returns-then-take_line-clause-begins : goal.returns-then-take_line-clause-begins
returns-then-take_line-clause-begins c =
    begins c.self.inside.stage c.take_line.new.states (c.take_line.ensures.reading c.self.invariant)

pub returns-clause-begins : goal.returns-clause-begins
returns-clause-begins c =
    begins c.self.inside.stage c.take_line.new.states (c.take_line.ensures.reading c.self.invariant)

pub returns-clause-bad : goal.returns-clause-bad
returns-clause-bad c =
    let not_end : may_end c.self.inside.stage ≡ true → c.args.line.now ≢ codes "END" =
    λ may end. elim c.else-may_end.branch [
      | else-may_end-via-then-may_end+else-eq w ↦
          true≢false (sym ((slice_eq-Decides Decides-eqb _ _ _ w.eq.ensures).1
          (end ∙ sym w.as_slice.ensures)) ∙ w.if-eq.false)
      | else-may_end-via-else-may_end w ↦
          true≢false (sym may ∙ sym c.may_end.ensures ∙ w.if-may_end.false)
    ] in
    subst (λ (l : List (List ℕ)). BeginsNoText (l ++ c.args.line.now ∷ [])) c.self.view_is
    (no_text c.self.inside.stage c.self.inside.states c.args.line.now
    (sym c.opened.ensures ∙ c.in_default.is) not_end
    (c.take_line.ensures.refused c.if-take_line.false))
