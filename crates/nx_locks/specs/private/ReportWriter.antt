-- How the taker of lines behind a run that shows locks stands after lines (this profile).
use Rattle.std.specs.Prelude.{◌≡◌, ℕ, ◌+◌, ◌^◌, ◌<◌, Bool, List, length}
use Rattle.nx_fec.specs.air_files.AirFile.{Line}
use Rattle.nx_receiver.specs.air_file_runs.Listen.{AreTaken, has_moment}
use Rattle.nx_copies.specs.copies.Shares.{all_at_zero}
use Rattle.nx_locks.specs.Report.{IsReport, now_headers, now_locks, past_headers}
use Rattle.nx_locks.specs.Run.{elements_on_0, ending_of, moments_on_0}
use Rattle.nx_locks.specs.declared.lock_report.LocksReport.{LocksReport}
use Rattle.nx_locks.specs.private.Showing.{Showing, ShowsSoFar}

-- The taker stands so after these lines, each taken after those before it; these bytes are their
-- report so far.
pub record IsShowing (report_writer : Showing) (lines : List Line) (given : List ℕ) : Type 0 where
  pub taken : AreTaken all_at_zero lines
  pub has_moment : report_writer.has_moment ≡ has_moment lines
  pub moment : report_writer.taker.moment ≡ ending_of lines
  pub shows : ShowsSoFar report_writer (elements_on_0 lines) (moments_on_0 lines) given

-- the elements of channel 0 and these after them are no more than a counter counts
abbrev pub HasFew : List Line → List Bool → Type 0
HasFew lines bits = length (elements_on_0 lines) + length bits < 2 ^ 64

-- these bytes are the report of the elements of these lines, where they are all, and the answer
-- counts
pub record HasClosed (lines : List Line) (bytes : List ℕ) (answer : LocksReport) : Type 0 where
  pub report : IsReport (elements_on_0 lines) (moments_on_0 lines) (ending_of lines) bytes
  pub elements : answer.elements ≡ length (elements_on_0 lines)
  pub locks : answer.locks ≡ length report.locks + now_locks report.now
  pub copies : answer.copies
      ≡ past_headers (elements_on_0 lines) report.locks
      + now_headers (elements_on_0 lines) report.now
