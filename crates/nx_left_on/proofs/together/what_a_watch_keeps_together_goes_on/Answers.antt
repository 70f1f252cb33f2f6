use Rattle.nx_combine.specs.CombinedPrinting.{combined}
use Rattle.nx_combine.specs.private.laws.CombinedLaws.{combined-laws}
use Rattle.nx_left_on.proofs.lemmas.chains.Keeps.{keeps-all_by, keeps-behind_by, keeps-faulted_by, keeps-some_by}
use Rattle.nx_left_on.proofs.together.what_a_watch_keeps_together_goes_on.Goals as goal

pub returns : goal.returns
returns c = record {
  all = λ now log copies lines file stop.
      keeps-all_by combined combined-laws now log copies lines file stop;
  some = λ now log copies lines file count stop.
      keeps-some_by combined combined-laws now log copies lines file count stop;
  behind_a_read = λ now log copies lines by_then file count stop.
      keeps-behind_by combined combined-laws now log copies lines by_then file count stop;
  after_a_fault = λ now log copies lines by_then file count stop.
      keeps-faulted_by combined combined-laws now log copies lines by_then file count stop;
}
