use Rattle.std.proofs.Common.{[], ◌∷◌, ◌++◌, ap, refl, sym, ◌∙◌}
use Rattle.std.proofs.lemmas.Result.{err_from_is_err_and}
use Rattle.nx_code.specs.Reading.{newline}
use Rattle.nx_copies.specs.copies.Log.{missing_newline}
use Rattle.nx_log.proofs.lemmas.beginnings.Joins.{lacks_same, lacks_within}
use Rattle.nx_log.proofs.lemmas.beginnings.Stages.{behind_head, behind_text}
use Rattle.nx_log.proofs.lemmas.reading.Views.{is_view}
use Rattle.nx_log.specs.private.Stages.{IsBehindText}
use Rattle.nx_log.proofs.entries.entry.read_entry.Goals as goal

pub returns-in_err-text-clause-lacks : goal.returns-in_err-text-clause-lacks
returns-in_err-text-clause-lacks c =
    let p = err_from_is_err_and c.from_residual-in_err-text.result
    c.from_residual-in_err-text.ensures.1 in
    let head = c.in_ok-head.ensures.found in
    rw p.1 (rw p.2 (behind_head c.args.bytes.now _ c.in_ok-head.head _ head.0 head.1
    (lacks_within _ _ _ _ (λ text t is. (missing_newline text ++ newline ∷ [], refl))
    c.in_err-text.ensures.lacks)))

pub returns-in_err-rest-clause-lacks : goal.returns-in_err-rest-clause-lacks
returns-in_err-rest-clause-lacks c =
    let p = err_from_is_err_and c.from_residual-in_err-rest.result
    c.from_residual-in_err-rest.ensures.1 in
    let head = c.in_ok-head.ensures.found in
    let text = c.in_ok-text.ensures.found in
    let end = c.entry_end.ensures.end in
    rw p.1 (rw p.2 (behind_head c.args.bytes.now _ c.in_ok-head.head _ head.0 head.1
    (behind_text _ _ _ _ c.in_ok-text.text.now _ text.1 text.0
    (lacks_same _ (IsBehindText c.in_ok-text.text.now) _ _ (λ spelled is. is ∙ end)
    (λ spelled is. is ∙ sym end) c.in_err-rest.ensures.lacks))))

pub returns-clause-found : goal.returns-clause-found
returns-clause-found c =
    let head = c.in_ok-head.ensures.found in
    let text = c.in_ok-text.ensures.found in
    is_view c.args.bytes.now c.in_ok-head.rest.now c.in_ok-text.rest.now c.in_ok-rest.rest.now
    c.in_ok-head.head c.in_ok-text.text.now _ head.0 head.1 text.0
    (c.in_ok-rest.ensures.found
    ∙ ap (λ l. l ++ c.in_ok-rest.rest.now) c.entry_end.ensures.end)
    (sym text.1.has_errors) (sym text.1.has_characters) text.1.letters refl refl refl
