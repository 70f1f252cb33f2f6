-- What a taker gave for lines is the report so far of them.
use Rattle.std.specs.Prelude.{ℕ, List}
use Rattle.nx_fec.specs.air_files.AirFile.{Line}
use Rattle.nx_locks.specs.Report.{IsReportSoFar}
use Rattle.nx_locks.specs.Run.{IsReportOfLines}
use Rattle.nx_locks.specs.private.ReportWriter.{IsShowing}
use Rattle.nx_locks.specs.private.Showing.{Showing}
use Rattle.nx_locks.specs.private.Taker.{Shows}
use Rattle.nx_locks.specs.private.Reader.{Reading}

pub report-so_far : {reader : Reading} {locks copies : ℕ} {bits : _} {moments given : List ℕ}
    → Shows reader locks copies bits moments given → IsReportSoFar bits moments given
report-so_far s = record {
  locks = s.locks;
  now = s.now;
  stands = s.stands;
  past = s.past;
  shown = s.shown;
  rest = s.rest;
  standing = s.standing;
  spelled = s.spelled;
}

pub begins-report : (now : Showing) (lines : List Line) (given : List ℕ)
    → IsShowing now lines given → IsReportOfLines lines given
begins-report now lines given h =
    record { taken = h.taken; report = report-so_far h.shows.taker.shows }
