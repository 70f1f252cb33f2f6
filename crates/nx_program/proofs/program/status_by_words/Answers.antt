use Rattle.std.proofs.Common.{◌∙◌, ap, refl, subst, sym}
use Rattle.nx_program.specs.Report.{Reports}
use Rattle.nx_program.specs.Status.{status_of}
use Rattle.nx_program.proofs.program.status_by_words.Goals as goal

pub returns-in-Ok : goal.returns-in-Ok
returns-in-Ok g c = record {
  outcome = c.obey-outcome.result.outcome;
  behind_call = c.obey-outcome.new.faults;
  ends = c.obey-outcome.ensures;
  reported = subst (Reports g.E.Write.contents c.obey-outcome.new.faults c.obey-outcome.new.faults)
      (sym c.in-Ok.is) refl;
  status_is = sym (ap status_of c.in-Ok.is);
}

pub returns-in-Err : goal.returns-in-Err
returns-in-Err g c = record {
  outcome = c.obey-outcome.result.outcome;
  behind_call = c.obey-outcome.new.faults;
  ends = c.obey-outcome.ensures;
  reported = subst (Reports g.E.Write.contents c.obey-outcome.new.faults c.report.new.faults)
      (sym c.in-Err.is) c.report.ensures.reported;
  status_is = c.report.ensures.status ∙ sym (ap status_of c.in-Err.is);
}
