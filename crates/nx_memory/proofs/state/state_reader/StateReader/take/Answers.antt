use Rattle.std.proofs.Common.{List, [], ◌∷◌, ◌++◌, ℕ, sym, ap, subst, ◌∙◌}
use Rattle.nx_memory.specs.StateText.{BeginsNoText}
use Rattle.nx_memory.proofs.lemmas.StateTexts.{opens, begins, no_text}
use Rattle.nx_memory.proofs.state.state_reader.StateReader.take.Goals as goal

pub returns-in-Some-clause-taken : goal.returns-in-Some-clause-taken
returns-in-Some-clause-taken c =
    let opened = opens c.self.inside.stage c.self.inside.states c.args.line.now c.in-Some.stage
    c.self.invariant c.in-Some.ensures in
    λ _. opened.lines ∙ ap (λ (l : List (List ℕ)). l ++ c.args.line.now ∷ []) c.self.view_is

pub returns-in-Some-clause-begins : goal.returns-in-Some-clause-begins
returns-in-Some-clause-begins c =
    let opened = opens c.self.inside.stage c.self.inside.states c.args.line.now c.in-Some.stage
    c.self.invariant c.in-Some.ensures in
    begins c.in-Some.stage c.self.inside.states opened.reading

pub returns-clause-begins : goal.returns-clause-begins
returns-clause-begins c =
    begins c.self.inside.stage c.take_line.new.states (c.take_line.ensures.reading c.self.invariant)

pub returns-clause-refused : goal.returns-clause-refused
returns-clause-refused c refuses other =
    subst (λ (l : List (List ℕ)). BeginsNoText (l ++ c.args.line.now ∷ [])) c.self.view_is
    (no_text c.self.inside.stage c.self.inside.states c.args.line.now
    (sym c.opened.ensures ∙ c.in_default.is) (λ _. other) (c.take_line.ensures.refused refuses))
