use Rattle.std.proofs.Common.{sym, ap, ◌∙◌, subst}
use Rattle.nx_log.specs.Query.{admits}
use Rattle.nx_log.specs.Json.{IsPlacedLine}
use Rattle.nx_log.specs.LogRun.{IsBehindGate, IsInForm}
use Rattle.nx_log.specs.Places.{PlacedCopy}
use Rattle.nx_log.proofs.lemmas.reading.Entries.{entry_bounded}
use Rattle.nx_log.proofs.lemmas.runs.LogRuns.{view-is}
use Rattle.nx_log.proofs.lemmas.runs.Outputs.{given-same, head-said}
use Rattle.nx_log.proofs.writing.output.Output.give.Goals as goal

pub returns-then-not-admits-clause-given : goal.returns-then-not-admits-clause-given
returns-then-not-admits-clause-given g c = λ one old entries is h.
    let view = c.whole_entry-view.result in
    let v = c.whole_entry-view.ensures in
    let same = view-is one c.args.bytes.now view is v in
    given-same c.args.query.now c.args.form old (g.W.Write.contents c.args.writer.now.inner)
    c.args.self.now entries h (record { one = one; places = c.args.places })
    (ap (admits c.args.query.now) (sym same)
    ∙ sym (c.admits.ensures view.text.now v.errors v.characters)
    ∙ c.if-not-admits.true)

pub returns-in-Log-clause-given : goal.returns-in-Log-clause-given
returns-in-Log-clause-given g c = λ one old entries is h.
    let view = c.whole_entry-view.result in
    let v = c.whole_entry-view.ensures in
    let same = view-is one c.args.bytes.now view is v in
    let placed : PlacedCopy = record { one = one; places = c.args.places } in
    c.take.ensures.given c.args.form placed old entries (head-said view one same v.errors)
    (subst (λ f. IsInForm f placed c.args.bytes.now) (sym c.in-Log.is) is)
    (ap (admits c.args.query.now) (sym same)
    ∙ sym (c.admits.ensures view.text.now v.errors v.characters)
    ∙ c.if-not-admits.false) h

pub returns-in-Json-clause-given : goal.returns-in-Json-clause-given
returns-in-Json-clause-given g c = λ one old entries is h.
    let view = c.whole_entry-view.result in
    let v = c.whole_entry-view.ensures in
    let same = view-is one c.args.bytes.now view is v in
    let placed : PlacedCopy = record { one = one; places = c.args.places } in
    let line = c.as_slice.result.now in
    let spelled = subst (IsPlacedLine one c.args.places) (sym c.as_slice.ensures.value)
    (subst (λ o. IsPlacedLine o c.args.places c.placed_line-line.result.items) same
    c.placed_line-line.ensures) in
    c.take-in-Json.ensures.given c.args.form placed old entries
    (head-said view one same v.errors)
    (subst (λ f. IsInForm f placed line) (sym c.in-Json.is) spelled)
    (ap (admits c.args.query.now) (sym same)
    ∙ sym (c.admits.ensures view.text.now v.errors v.characters)
    ∙ c.if-not-admits.false) h

pub kept_text-requires : goal.kept_text-requires
kept_text-requires g c = entry_bounded c.requires.whole.0 c.args.bytes.now c.requires.whole.1

pub returns-in-Kept-clause-given : goal.returns-in-Kept-clause-given
returns-in-Kept-clause-given g c = λ one old entries is h.
    let view = c.whole_entry-view.result in
    let v = c.whole_entry-view.ensures in
    let same = view-is one c.args.bytes.now view is v in
    let text = c.as_slice-in-Kept.result.now in
    let spelled : IsBehindGate one text =
    (c.args.bytes.now, is, c.as_slice-in-Kept.ensures.value ∙ c.kept_text.ensures) in
    let placed : PlacedCopy = record { one = one; places = c.args.places } in
    c.take-in-Kept.ensures.given c.args.form placed old entries
    (head-said view one same v.errors)
    (subst (λ f. IsInForm f placed text) (sym c.in-Kept.is) spelled)
    (ap (admits c.args.query.now) (sym same)
    ∙ sym (c.admits.ensures view.text.now v.errors v.characters)
    ∙ c.if-not-admits.false) h
