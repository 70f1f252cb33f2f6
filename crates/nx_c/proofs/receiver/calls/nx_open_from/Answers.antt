use Rattle.std.proofs.Common.{◌≡◌, ◌≤◌, ◌∙◌, None, subst, sym, arith}
use Rattle.std.specs.Prelude.{⊤}
use Rattle.nx_receiver.specs.air_file_runs.State.{BeginsWith}
use Rattle.nx_combine.specs.Families.{most_families}
use Rattle.nx_handle.specs.Saving.{AnswersOpeningFrom}
use Rattle.nx_c.specs.Opening.{IsReady, OpensFromState}
use Rattle.nx_c.proofs.lemmas.Opening.{is-none, opens, opens-none}
use Rattle.nx_c.proofs.receiver.calls.nx_open_from.Goals as goal

pub returns-in_default : goal.returns-in_default
returns-in_default c =
    let none : c.args.receiver.now.value ≡ None =
    is-none c.args.receiver.now.value c.is_open.result c.is_open.ensures.open
    c.if-is_open.false in
    let few : c.args.families ≤ most_families =
    omega (arith, c.if-families-gt-MAX_FAMILIES.false) in
    subst (λ o. OpensFromState c.args.state.now c.args.families o c.is_open.new.self.value
    c.open_from_without_memory.result) (sym none)
    (opens-none (λ P kind old new. AnswersOpeningFrom kind c.args.state.now old new
    c.open_from_without_memory.result) (BeginsWith c.args.state.now (λ states more. ⊤))
    c.args.families c.is_open.new.self.value c.open_from_without_memory.result few
    c.open_from_without_memory.ensures (c.is_open.ensures.unchanged ∙ none))

pub returns-then-status-number : goal.returns-then-status-number
returns-then-status-number c =
    let none : c.args.receiver.now.value ≡ None =
    is-none c.args.receiver.now.value c.is_open.result c.is_open.ensures.open
    c.if-is_open.false in
    let few : c.args.families ≤ most_families =
    omega (arith, c.if-families-gt-MAX_FAMILIES.false) in
    subst (λ o. OpensFromState c.args.state.now c.args.families o c.hold.new.self.value
    c.open_from-status.result) (sym none)
    (opens (λ P kind old new. AnswersOpeningFrom kind c.args.state.now old new
    c.open_from-status.result)
    (BeginsWith c.args.state.now (λ states more. ⊤)) c.args.families c.hold.new.self.value
    c.open_from-status.result c.deref_mut.result.now c.open_from-status.new.self few
    (subst (IsReady c.args.families) (sym c.deref_mut.ensures.value) c.in-Ok.ensures)
    c.open_from-status.ensures (c.if-status-number.true ∙ c.number-2.ensures) c.hold.ensures)
