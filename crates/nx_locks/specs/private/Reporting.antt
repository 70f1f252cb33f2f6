-- How a run that shows locks stands while it goes on (this profile).
use Rattle.std.specs.Prelude.{ℕ, List, Option}
use Rattle.nx_fec.specs.air_files.AirFile.{Line}
use Rattle.nx_fec.specs.air_files.LineRuns.{HasGiven, Waiting}
use Rattle.nx_locks.specs.private.ReportWriter.{IsShowing}
use Rattle.nx_locks.specs.private.Showing.{Showing}

-- the report so far of these lines is written, or waits
pub record IsReporting (report_writer : Showing) (old new : Option (List ℕ)) (batch : Waiting)
    (lines : List Line) : Type 0 where
  pub given : List ℕ
  pub shows : IsShowing report_writer lines given
  pub waits : HasGiven old new batch given
