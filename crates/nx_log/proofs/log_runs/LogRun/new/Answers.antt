use Rattle.std.proofs.Common.{[], inl, refl}
use Rattle.nx_log.proofs.lemmas.runs.LogRuns.{none-told, stands-none}
use Rattle.nx_log.proofs.log_runs.LogRun.new.Goals as goal

pub returns-clause-running : goal.returns-clause-running
returns-clause-running c = λ query form old told failures none. record {
  stretches = [];
  rest = [];
  last = [];
  torn = [];
  cut = record { split = refl; are = tt; behind = inl refl };
  at = c.new.ensures;
  given = c.new-2.ensures.given query form old;
  told = none-told told failures none;
  ended = refl;
  first = refl;
  passing = tt;
  mode = refl;
  stands = stands-none c.args.damaged;
}
