use Rattle.std.proofs.Common.{◌∙◌, [], append-nil, sym}
use Rattle.nx_watch.proofs.lemmas.log.Remembering.{kept-numbered, seen-none, seen-some}
use Rattle.nx_watch.proofs.kept_log.log_memory.found_in.Goals as goal

pub returns-in_err-view-clause-found : goal.returns-in_err-view-clause-found
returns-in_err-view-clause-found c = λ one logged.
    absurd (c.in_err-view.ensures.none one c.args.bytes.now [] logged
    (sym (append-nil c.args.bytes.now)))

pub returns-in_err-entry-clause-found : goal.returns-in_err-entry-clause-found
returns-in_err-entry-clause-found c = λ one logged.
    c.from_residual-in_err-entry.ensures
    ∙ seen-none one c.args.bytes.now c.in_ok-view.view logged c.in_ok-view.ensures.found
    (c.in_err-entry.ensures c.args.bytes.now c.in_ok-view.ensures.found)

pub returns-clause-found : goal.returns-clause-found
returns-clause-found c = λ one logged.
    seen-some one c.args.bytes.now c.in_ok-view.view c.in_ok-entry.entry logged
    c.in_ok-view.ensures.found (c.in_ok-entry.ensures c.args.bytes.now c.in_ok-view.ensures.found)

pub returns-clause-numbered : goal.returns-clause-numbered
returns-clause-numbered c =
    kept-numbered _ c.in_ok-entry.entry
    (c.in_ok-entry.ensures c.args.bytes.now c.in_ok-view.ensures.found)
