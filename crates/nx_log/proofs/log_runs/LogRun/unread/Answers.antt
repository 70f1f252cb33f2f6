use Rattle.std.proofs.Common.{◌++◌}
use Rattle.std.specs.Prelude.{map}
use Rattle.nx_log.specs.Places.{unplaced}
use Rattle.nx_log.specs.Salvage.{entries_in}
use Rattle.nx_log.proofs.lemmas.runs.LogRuns.{ends-unread}
use Rattle.nx_log.proofs.log_runs.LogRun.unread.Goals as goal

pub returns-clause-ended : goal.returns-clause-ended
returns-clause-ended g c = λ form damaged old n bytes h wrote.
    ends-unread c.args.query.now form damaged old c.args.self.now _ n bytes h _ c.unread.result
    (c.unread.ensures.ended form old (map unplaced (entries_in h.stretches ++ h.last)) h.given
    wrote)
