use Rattle.std.proofs.Common.{◌∙◌, subst}
use Rattle.std.proofs.lemmas.Result.{err_from_is_err_and}
use Rattle.nx_log.specs.private.KeptReading.{EndsKept}
use Rattle.nx_log.proofs.lemmas.kept.Runs.{part_all}
use Rattle.nx_log.proofs.kept_runs.KeptRun.end.Goals as goal

pub returns-in_err-close-clause-ended : goal.returns-in_err-close-clause-ended
returns-in_err-close-clause-ended g c = λ query from old bytes h.
    let p = err_from_is_err_and c.from_residual.result c.from_residual.ensures.1 in
    rw p.1 (rw p.2 (part_all query c.args.form from _ c.args.self.now.log bytes h.entries _ h.at
    (c.in_err-close.ensures.written query old h.entries h.given)))

pub returns-in-Some-clause-ended : goal.returns-in-Some-clause-ended
returns-in-Some-clause-ended g c = λ query from old bytes h.
    let ends = subst (EndsKept from bytes h.entries) c.in-Some.is
    (c.finish.ensures from bytes h.entries h.at) in (
      h.entries,
      ends.0,
      ends.1,
      ends.2,
      c.in_ok-close.ensures.written query old h.entries h.given,
    )

pub returns-in-None-clause-ended : goal.returns-in-None-clause-ended
returns-in-None-clause-ended g c = λ query from old bytes h. (
  h.entries,
  subst (EndsKept from bytes h.entries) c.in-None.is (c.finish.ensures from bytes h.entries h.at),
  c.in_ok-close.ensures.written query old h.entries h.given,
  c.count.ensures ∙ c.in_ok-close.ensures.same query old h.entries h.given,
)
