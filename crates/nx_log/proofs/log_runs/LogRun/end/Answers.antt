use Rattle.std.proofs.Common.{◌≤◌, ◌++◌, ◌∙◌, ◌-◌, ◌^◌, ap, length, min, refl, subst}
use Rattle.std.specs.Prelude.{map}
use Rattle.std.proofs.lemmas.Result.{err_from_is_err_and}
use Rattle.nx_log.specs.LogRun.{most_read}
use Rattle.nx_log.specs.Places.{unplaced}
use Rattle.nx_log.specs.Salvage.{entries_in, told_of}
use Rattle.nx_log.proofs.lemmas.runs.LogRuns.{part-all}
use Rattle.nx_log.proofs.lemmas.runs.Placing.{chosen-count}
use Rattle.nx_log.proofs.log_runs.LogRun.end.Goals as goal

pub returns-in_err-close-clause-ended : goal.returns-in_err-close-clause-ended
returns-in_err-close-clause-ended g c = λ query damaged old told bytes within h.
    let p = err_from_is_err_and c.from_residual.result c.from_residual.ensures.1 in
    rw p.1 (rw p.2 (part-all query c.args.form damaged old c.args.self.now _ _ bytes h _ _
    (c.in_err-close.ensures.written query old (map unplaced (entries_in h.stretches ++ h.last))
    h.given)))

pub returns-in-Some-clause-ended : goal.returns-in-Some-clause-ended
returns-in-Some-clause-ended g c = λ query damaged old told bytes within h.
    let entries = entries_in h.stretches ++ h.last in
    let wrote = c.in_ok-close.ensures.written query old (map unplaced entries) h.given in
    let last = c.tell_last.ensures told h.stretches h.rest h.last h.torn
    (subst (λ l. length l ≤ most_read) h.cut.split within) h.ended h.at h.told in (
      entries_in h.stretches ++ h.last,
      record {
        stretches = h.stretches;
        told = told_of h.stretches last.torn;
        salvage = record {
          rest = h.rest;
          last = h.last;
          torn = last.torn;
          cut = h.cut;
          hold = last.hold;
          are_entries = refl;
          is_told = refl;
        };
        wrote = wrote;
        was_told = last.told;
        first = h.first ∙ c.in-Some.is;
        stands = h.stands;
      },
    )

pub returns-in-None-clause-ended : goal.returns-in-None-clause-ended
returns-in-None-clause-ended g c = λ query damaged old told bytes within h.
    let entries = entries_in h.stretches ++ h.last in
    let wrote = c.in_ok-close.ensures.written query old (map unplaced entries) h.given in
    let last = c.tell_last.ensures told h.stretches h.rest h.last h.torn
    (subst (λ l. length l ≤ most_read) h.cut.split within) h.ended h.at h.told in (
      entries_in h.stretches ++ h.last,
      record {
        stretches = h.stretches;
        told = told_of h.stretches last.torn;
        salvage = record {
          rest = h.rest;
          last = h.last;
          torn = last.torn;
          cut = h.cut;
          hold = last.hold;
          are_entries = refl;
          is_told = refl;
        };
        wrote = wrote;
        was_told = last.told;
        first = h.first ∙ c.in-None.is;
        stands = h.stands;
      },
      c.count.ensures ∙ c.in_ok-close.ensures.same query old (map unplaced entries) h.given
          ∙ ap (λ n. min n (2 ^ 64 - 1)) (chosen-count query entries),
    )
