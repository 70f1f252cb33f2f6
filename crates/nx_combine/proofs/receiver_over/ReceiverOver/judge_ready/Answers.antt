use Rattle.std.proofs.Common.{◌≡◌, ◌∷◌, ◌∙◌, [], ap, cond, subst, sym, true}
use Rattle.std.specs.Prelude.{IfSome}
use Rattle.nx_envelope.specs.Copies.{errors_of}
use Rattle.nx_envelope.specs.declared.finder.Finder.{Finder}
use Rattle.nx_copies.specs.copies.FoundCopies.{TaggedCopy, headed_copy}
use Rattle.nx_copies.specs.hearing.CopyHearer.{ready_copies, ready_in}
use Rattle.nx_receiver.proofs.lemmas.receiver.Given.{has_head, headed_ready, with_moment}
use Rattle.nx_combine.specs.CombinedReceiver.{ReceiverOver, hearer_in, receiver_in}
use Rattle.nx_combine.specs.Judging.{IsGivenAs, StandsHolding, combiner_of}
use Rattle.nx_combine.specs.Families.{combined_copy_holding}
use Rattle.nx_combine.specs.Judging.{copies_printed, printed_by_holding}
use Rattle.nx_combine.specs.declared.combiner.PrintedCopy.{PrintedCopy}
use Rattle.nx_combine.proofs.lemmas.Counted.{none_counted, one_counted}
use Rattle.nx_combine.proofs.lemmas.JudgedOn.{no_entry, printed_was_selected}
use Rattle.nx_combine.proofs.receiver_over.ReceiverOver.judge_ready.Goals as goal

pub judge-requires-clause-errors : goal.judge-requires-clause-errors
judge-requires-clause-errors g c =
    let has = has_head _ c.ready_head.result c.in_ok-found.found c.in_ok-found.was
    c.ready_head.ensures.none c.ready_head.ensures.head in
    has.is.errors ∙ ap errors_of (sym (c.text.ensures.text ∙ has.ready.text))

-- it isn't printed
pub returns-in_err-printed-clause-judged : goal.returns-in_err-printed-clause-judged
returns-in_err-printed-clause-judged g c judged heard ready noted entries stands counts =
    let content = g.M.Recall.content in
    let held = g.S.HoldsFamilies.held in
    let places = c.args.places.now in
    let most = g.S.HoldsFamilies.most places in
    let now = receiver_in held c.args.self.now places in
    let view = c.self.view_is in
    let kept = c.self.inside.taker.copies.tag in
    let found = c.in_ok-found.found in
    let has = has_head c.finder-finder.result.now c.ready_head.result found c.in_ok-found.was
    c.ready_head.ensures.none c.ready_head.ensures.head in
    let copy = headed_copy (with_moment found kept.moment) c.text.result.now kept.is_selected in
    let one : ready_copies (hearer_in now) ≡ copy ∷ [] =
    sym (ap (λ (r : ReceiverOver _ _). ready_copies (hearer_in (receiver_in held r places))) view)
    ∙ ap (λ (f : Finder). ready_in f.copy f.text kept) (sym c.finder-finder.ensures)
    ∙ headed_ready c.finder-finder.result.now found kept has
    ∙ ap (λ t. headed_copy (with_moment found kept.moment) t kept.is_selected ∷ [])
    (sym c.text.ensures.text) in
    let same : heard.copy ∷ [] ≡ copy ∷ [] = sym ready ∙ one in
    let given : IsGivenAs heard copy c.positions-positions.result.now = record {
      heard_copy = cc;
      given = c.positions-positions.ensures
          ∙ ap (λ (r : ReceiverOver _ _). r.taker.notes.positions) view ∙ noted;
    } in
    let holds = ap (λ (r : ReceiverOver _ _). content r.memory) view ∙ entries in
    let was = subst (λ v. StandsHolding most v judged.families judged.printed)
    (sym (ap (λ (r : ReceiverOver _ _). combiner_of (held r.store places) r.finder) view)) stands in
    let is = c.judge.ensures in
    record {
      stands = is.stands judged.entries judged.families judged.printed heard given holds was;
      entered = is.entered judged.entries judged.families judged.printed heard given holds was;
      printed_is =
          is.printed judged.entries judged.families judged.printed heard given holds was
          ∙ ap (λ o. copies_printed o c.judge.new.self.finder.text c.text.result.now
          kept.is_selected)
          c.in_err-printed.was
          ∙ no_entry _ _ c.from_residual-in_err-printed.ensures;
      counted = ap (λ (r : ReceiverOver _ _). r.sendings) view ∙ counts
          ∙ none_counted (printed_by_holding most judged heard) judged.printed
          (is.printed judged.entries judged.families judged.printed heard given holds was
          ∙ ap (λ o. copies_printed o c.judge.new.self.finder.text c.text.result.now
          kept.is_selected)
          c.in_err-printed.was);
    }

-- it is printed
pub returns-clause-judged : goal.returns-clause-judged
returns-clause-judged g c judged heard ready noted entries stands counts =
    let content = g.M.Recall.content in
    let held = g.S.HoldsFamilies.held in
    let places = c.args.places.now in
    let most = g.S.HoldsFamilies.most places in
    let now = receiver_in held c.args.self.now places in
    let view = c.self.view_is in
    let kept = c.self.inside.taker.copies.tag in
    let found = c.in_ok-found.found in
    let has = has_head c.finder-finder.result.now c.ready_head.result found c.in_ok-found.was
    c.ready_head.ensures.none c.ready_head.ensures.head in
    let copy = headed_copy (with_moment found kept.moment) c.text.result.now kept.is_selected in
    let one : ready_copies (hearer_in now) ≡ copy ∷ [] =
    sym (ap (λ (r : ReceiverOver _ _). ready_copies (hearer_in (receiver_in held r places))) view)
    ∙ ap (λ (f : Finder). ready_in f.copy f.text kept) (sym c.finder-finder.ensures)
    ∙ headed_ready c.finder-finder.result.now found kept has
    ∙ ap (λ t. headed_copy (with_moment found kept.moment) t kept.is_selected ∷ [])
    (sym c.text.ensures.text) in
    let same : heard.copy ∷ [] ≡ copy ∷ [] = sym ready ∙ one in
    let given : IsGivenAs heard copy c.positions-positions.result.now = record {
      heard_copy = cc;
      given = c.positions-positions.ensures
          ∙ ap (λ (r : ReceiverOver _ _). r.taker.notes.positions) view ∙ noted;
    } in
    let holds = ap (λ (r : ReceiverOver _ _). content r.memory) view ∙ entries in
    let was = subst (λ v. StandsHolding most v judged.families judged.printed)
    (sym (ap (λ (r : ReceiverOver _ _). combiner_of (held r.store places) r.finder) view)) stands in
    let is = c.judge.ensures in
    record {
      stands = is.stands judged.entries judged.families judged.printed heard given holds was;
      entered = is.entered judged.entries judged.families judged.printed heard given holds was;
      printed_is =
          printed_was_selected most judged heard c.in_ok-printed.printed
          c.judge.new.self.finder.text c.text.result.now kept.is_selected
          (ap (λ (t : TaggedCopy). t.selected) given.heard_copy)
          (is.printed judged.entries judged.families judged.printed heard given holds was
          ∙ ap (λ o. copies_printed o c.judge.new.self.finder.text c.text.result.now
          kept.is_selected) c.in_ok-printed.was)
          ∙ ap (λ t. headed_copy c.in_ok-printed.printed.head
          (cond c.in_ok-printed.printed.is_given c.judge.new.self.finder.text t) true ∷ [])
          (c.text.ensures.text ∙ ap (λ (f : Finder). f.text) c.finder-finder.ensures);
      counted =
          subst (λ o. IfSome o (λ (p : PrintedCopy). p.sendings
          ≡ (combined_copy_holding most judged.families heard).sendings)) c.in_ok-printed.was
          (is.sendings judged.families judged.printed heard given was)
          ∙ one_counted judged.entries judged.printed
          (combined_copy_holding most judged.families heard) _
          (is.printed judged.entries judged.families judged.printed heard given holds was
          ∙ ap (λ o. copies_printed o c.judge.new.self.finder.text c.text.result.now
          kept.is_selected) c.in_ok-printed.was);
    }
