use Rattle.std.proofs.Common.{◌≡◌, ◌∷◌, ◌∙◌, [], ap, arith, cond, refl, subst, sym, true}
use Rattle.std.specs.Prelude.{IsNone}
use Rattle.nx_code.specs.Lists.{last_of}
use Rattle.nx_envelope.specs.Copies.{errors_of}
use Rattle.nx_envelope.specs.Finder.{is_ready}
use Rattle.nx_envelope.specs.declared.finder.Finder.{Finder}
use Rattle.nx_memory.specs.Memory.{most_entries}
use Rattle.nx_receiver.specs.Receiver.{Receiving, headed_list, text_of}
use Rattle.nx_copies.specs.copies.FoundCopies.{headed_copy}
use Rattle.nx_copies.specs.hearing.CopyHearer.{ready_copies, ready_in}
use Rattle.nx_copies.proofs.lemmas.copy_hearer.Takes.{none_ready}
use Rattle.nx_receiver.proofs.lemmas.receiver.Given.{has_head, headed_ready, with_moment}
use Rattle.nx_receiver.proofs.lemmas.receiver.Printing.{entered_none, entered_one, printed_none}
use Rattle.nx_receiver.proofs.lemmas.receiver.Printing.{printed_one, was_selected}
use Rattle.nx_receiver.proofs.receiver.Receiver.judge_ready.Goals as goal

pub judge-requires-clause-errors : goal.judge-requires-clause-errors
judge-requires-clause-errors g c =
    let has = has_head _ c.ready_head.result c.in_ok-found.found c.in_ok-found.was
    c.ready_head.ensures.none c.ready_head.ensures.head in
    has.is.errors ∙ ap errors_of (sym (c.text.ensures.text ∙ has.ready.text))

-- the finder has no copy
pub returns-in_err-found-clause-printed : goal.returns-in_err-found-clause-printed
returns-in_err-found-clause-printed g c entries h =
    let now = c.args.self.now in
    let none = c.ready_head.ensures.none.0 (subst IsNone (sym c.in_err-found.was) refl) in
    let at = c.finder-finder.ensures
    ∙ ap (λ (r : Receiving g.row.M.Denot). r.hearer.reader.finder) c.self.view_is in
    ap (λ o. headed_list o (text_of now)) c.from_residual.ensures
    ∙ sym (printed_none entries (ready_copies now.hearer)
    (none_ready now.hearer.reader.finder.copy now.hearer.reader.finder.text now.hearer.tag
    (sym (ap is_ready at) ∙ none)))

pub returns-in_err-found-clause-entered : goal.returns-in_err-found-clause-entered
returns-in_err-found-clause-entered g c entries h =
    let now = c.args.self.now in
    let none = c.ready_head.ensures.none.0 (subst IsNone (sym c.in_err-found.was) refl) in
    let at = c.finder-finder.ensures
    ∙ ap (λ (r : Receiving g.row.M.Denot). r.hearer.reader.finder) c.self.view_is in
    h ∙ ap (last_of most_entries) (sym (entered_none entries (ready_copies now.hearer)
    (none_ready now.hearer.reader.finder.copy now.hearer.reader.finder.text now.hearer.tag
    (sym (ap is_ready at) ∙ none))))

-- its copy isn't printed
pub returns-then-not-judge-clause-printed : goal.returns-then-not-judge-clause-printed
returns-then-not-judge-clause-printed g c entries h =
    let content = g.M.Recall.content in
    let now = c.args.self.now in
    let finder = c.finder-finder.result.now in
    let kept = c.self.inside.taker.tag in
    let found = c.in_ok-found.found in
    let has = has_head finder c.ready_head.result found c.in_ok-found.was
    c.ready_head.ensures.none c.ready_head.ensures.head in
    let copy = headed_copy (with_moment found kept.moment) c.text.result.now kept.is_selected in
    let one : ready_copies now.hearer ≡ copy ∷ [] =
    sym (ap (λ (r : Receiving g.row.M.Denot). ready_copies r.hearer) c.self.view_is)
    ∙ ap (λ (f : Finder). ready_in f.copy f.text kept) (sym c.finder-finder.ensures)
    ∙ headed_ready finder found kept has
    ∙ ap (λ t. headed_copy (with_moment found kept.moment) t kept.is_selected ∷ [])
    (sym c.text.ensures.text) in
    let same = ap (λ (r : Receiving g.row.M.Denot). content r.memory) c.self.view_is in
    sym (printed_one entries (ready_copies now.hearer) copy c.judge.result one
    (c.judge.ensures.printed entries (same ∙ h))
    ∙ ap (λ b. cond b (copy ∷ []) []) c.if-not-judge.true)

pub returns-then-not-judge-clause-entered : goal.returns-then-not-judge-clause-entered
returns-then-not-judge-clause-entered g c entries h =
    let content = g.M.Recall.content in
    let now = c.args.self.now in
    let finder = c.finder-finder.result.now in
    let kept = c.self.inside.taker.tag in
    let found = c.in_ok-found.found in
    let has = has_head finder c.ready_head.result found c.in_ok-found.was
    c.ready_head.ensures.none c.ready_head.ensures.head in
    let copy = headed_copy (with_moment found kept.moment) c.text.result.now kept.is_selected in
    let one : ready_copies now.hearer ≡ copy ∷ [] =
    sym (ap (λ (r : Receiving g.row.M.Denot). ready_copies r.hearer) c.self.view_is)
    ∙ ap (λ (f : Finder). ready_in f.copy f.text kept) (sym c.finder-finder.ensures)
    ∙ headed_ready finder found kept has
    ∙ ap (λ t. headed_copy (with_moment found kept.moment) t kept.is_selected ∷ [])
    (sym c.text.ensures.text) in
    let same = ap (λ (r : Receiving g.row.M.Denot). content r.memory) c.self.view_is in
    c.judge.ensures.entered entries (same ∙ h)
    ∙ ap (last_of most_entries) (sym (entered_one entries (ready_copies now.hearer) copy one))

-- it is printed
pub returns-clause-printed : goal.returns-clause-printed
returns-clause-printed g c entries h =
    let content = g.M.Recall.content in
    let now = c.args.self.now in
    let finder = c.finder-finder.result.now in
    let kept = c.self.inside.taker.tag in
    let found = c.in_ok-found.found in
    let has = has_head finder c.ready_head.result found c.in_ok-found.was
    c.ready_head.ensures.none c.ready_head.ensures.head in
    let copy = headed_copy (with_moment found kept.moment) c.text.result.now kept.is_selected in
    let one : ready_copies now.hearer ≡ copy ∷ [] =
    sym (ap (λ (r : Receiving g.row.M.Denot). ready_copies r.hearer) c.self.view_is)
    ∙ ap (λ (f : Finder). ready_in f.copy f.text kept) (sym c.finder-finder.ensures)
    ∙ headed_ready finder found kept has
    ∙ ap (λ t. headed_copy (with_moment found kept.moment) t kept.is_selected ∷ [])
    (sym c.text.ensures.text) in
    let same = ap (λ (r : Receiving g.row.M.Denot). content r.memory) c.self.view_is in
    let shown = c.judge.ensures.printed entries (same ∙ h) in
    let text = sym (c.text.ensures.text ∙ ap (λ (f : Finder). f.text) c.finder-finder.ensures
    ∙ ap (λ (r : Receiving g.row.M.Denot). text_of r) c.self.view_is) in
    ap (λ x. x ∷ []) (ap (λ t. headed_copy (with_moment found kept.moment) t true) text
    ∙ was_selected entries (with_moment found kept.moment) c.text.result.now kept.is_selected
    (sym shown ∙ c.if-not-judge.false))
    ∙ sym (printed_one entries (ready_copies now.hearer) copy c.judge.result one shown
    ∙ ap (λ b. cond b (copy ∷ []) []) c.if-not-judge.false)

pub returns-clause-entered : goal.returns-clause-entered
returns-clause-entered g c entries h =
    let content = g.M.Recall.content in
    let now = c.args.self.now in
    let finder = c.finder-finder.result.now in
    let kept = c.self.inside.taker.tag in
    let found = c.in_ok-found.found in
    let has = has_head finder c.ready_head.result found c.in_ok-found.was
    c.ready_head.ensures.none c.ready_head.ensures.head in
    let copy = headed_copy (with_moment found kept.moment) c.text.result.now kept.is_selected in
    let one : ready_copies now.hearer ≡ copy ∷ [] =
    sym (ap (λ (r : Receiving g.row.M.Denot). ready_copies r.hearer) c.self.view_is)
    ∙ ap (λ (f : Finder). ready_in f.copy f.text kept) (sym c.finder-finder.ensures)
    ∙ headed_ready finder found kept has
    ∙ ap (λ t. headed_copy (with_moment found kept.moment) t kept.is_selected ∷ [])
    (sym c.text.ensures.text) in
    let same = ap (λ (r : Receiving g.row.M.Denot). content r.memory) c.self.view_is in
    c.judge.ensures.entered entries (same ∙ h)
    ∙ ap (last_of most_entries) (sym (entered_one entries (ready_copies now.hearer) copy one))

pub returns-clause-head : goal.returns-clause-head
returns-clause-head g c =
    let has = has_head _ c.ready_head.result c.in_ok-found.found c.in_ok-found.was
    c.ready_head.ensures.none c.ready_head.ensures.head in
    let order = c.self.invariant in
    record {
      errors = has.is.errors ∙ ap errors_of (sym has.ready.text
          ∙ ap (λ (f : Finder). f.text) c.finder-finder.ensures
          ∙ ap (λ (r : Receiving g.row.M.Denot). text_of r) c.self.view_is);
      in_range = omega (arith, order.copy_next, order.in_range);
    }
