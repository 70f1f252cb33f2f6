-- A run that shows the locks of an air file on channel 0: the report of its lines, and its first
-- fault (this profile). It reads the file as a run that listens does, with the same faults, which
-- are those of all channels.
use Rattle.std.specs.Prelude.{◌≡◌, ◌⊎◌, ℕ, ◌+◌, Bool, List, length, map}
use Rattle.std.specs.Prelude.{Result, Ok, Err}
use Rattle.std.specs.Io.KnownBytes.{Appends}
use Rattle.nx_fec.specs.air_files.AirFile.{Line}
use Rattle.nx_fec.specs.air_files.LineRuns.{HasReadFault}
use Rattle.nx_fec.specs.air_files.Lines.{IsAirFile, StopsAt, air_limit}
use Rattle.nx_fec.specs.declared.air_files.channel.Channel.TheVariants.{Zero}
use Rattle.nx_fec.specs.Transfers.{Contents, Devices, Extent, Transfers, contents_of, line_by_line}
use Rattle.nx_copies.specs.Events.{elements_among, first_setting, settings}
use Rattle.nx_receiver.specs.air_file_runs.Listen.{AreTaken, HasListenFault, HasLoggedSome, events_on}
use Rattle.nx_receiver.specs.air_file_runs.Listen.{moment_after}
use Rattle.nx_copies.specs.copies.Shares.{all_at_zero, start_on}
use Rattle.nx_receiver.specs.declared.air_file_runs.listen_fault.ListenFault.{ListenFault}
use Rattle.nx_receiver.specs.declared.air_file_runs.listen_fault.ListenFault.TheVariants.{Memory, Read, Write}
use Rattle.nx_receiver.specs.declared.air_file_runs.listen_fault.ListenFault.TheVariants.{LineCut}
use Rattle.nx_locks.specs.Report.{IsReport, IsReportSoFar, now_headers, now_locks, past_headers}
use Rattle.nx_locks.specs.declared.lock_report.LocksReport.{LocksReport}

-- the elements of lines on channel 0, in order
abbrev pub elements_on_0 : List Line → List Bool
elements_on_0 lines = elements_among (events_on Zero lines)

-- the moment in force at each of them
abbrev pub moments_on_0 : List Line → List ℕ
moments_on_0 lines =
    map (λ setting. setting.moment)
    (settings (first_setting (start_on all_at_zero Zero)) (events_on Zero lines))

-- the moment in force after lines
abbrev pub ending_of : List Line → ℕ
ending_of lines = moment_after 0 lines

-- the report so far of these lines, of which each is taken after those before it
pub record IsReportOfLines (lines : List Line) (bytes : List ℕ) : Type 0 where
  pub taken : AreTaken all_at_zero lines
  pub report : IsReportSoFar (elements_on_0 lines) (moments_on_0 lines) bytes

-- the report of an air file that is read to its end: its lines, each taken after those before it
pub record IsReportOfFile (input : List ℕ) (lines : List Line) (bytes : List ℕ) : Type 0 where
  pub file : IsAirFile air_limit input lines
  pub taken : AreTaken all_at_zero lines
  pub report : IsReport (elements_on_0 lines) (moments_on_0 lines) (ending_of lines) bytes

abbrev pub IsReportOf : List ℕ → List ℕ → Type 0
IsReportOf file bytes = (lines : List Line) × IsReportOfFile file lines bytes

-- the report so far of these lines was written
pub record HasShown (contents : Contents) (lines : List Line) : Type 0 where
  pub bytes : List ℕ
  pub report : IsReportOfLines lines bytes
  pub written : Appends contents.before contents.after bytes

-- the report of the whole file was written, and the answer counts its lines, its elements on
-- channel 0, its locks, and the headers in their texts
pub record HasShownAll (contents : Contents) (file : List ℕ) (answer : LocksReport) : Type 0 where
  pub lines : List Line
  pub bytes : List ℕ
  pub report : IsReportOfFile file lines bytes
  pub written : Appends contents.before contents.after bytes
  pub lines_counted : answer.lines ≡ length lines
  pub elements_counted : answer.elements ≡ length (elements_on_0 lines)
  pub locks_counted : answer.locks ≡ length report.report.locks + now_locks report.report.now
  pub copies_counted : answer.copies
      ≡ past_headers (elements_on_0 lines) report.report.locks
      + now_headers (elements_on_0 lines) report.report.now

-- What a fault of a run that shows locks says of bytes of this extent. It takes no memory, so want
-- of memory never comes. After a failed write the first bytes of a report are written: of some of
-- the whole lines, from the first on, or of the whole file, if it had ended. Before each other
-- fault the report so far of the whole lines before it was written. A failed read comes behind
-- those lines and the beginning of one more, and leaves what follows. Any further fault is the
-- first of the file; `LineCut` comes only where the bytes are all.
abbrev pub ExplainsShowing : Extent → Contents → List ℕ → ListenFault → Type 0
ExplainsShowing extent contents bytes (Memory error) = ⊥
ExplainsShowing extent contents bytes Read = HasReadFault extent (HasShown contents) bytes
ExplainsShowing extent contents bytes (Write written) =
    StopsAt bytes (λ lines rest more.
    HasLoggedSome (IsReportOfLines lines) contents written)
    ⊎ (extent.at_end × HasLoggedSome (IsReportOf bytes) contents written)
ExplainsShowing extent contents bytes (LineCut line) =
    extent.at_end × HasListenFault all_at_zero (HasShown contents) bytes (LineCut line)
ExplainsShowing extent contents bytes fault =
    HasListenFault all_at_zero (HasShown contents) bytes fault

-- what such a run answers of bytes of this extent: counts, where the report of the file was
-- written; or a fault
abbrev pub AnswersShowing : Extent → Contents → Result LocksReport ListenFault → List ℕ → Type 0
AnswersShowing extent contents (Ok answer) bytes =
    extent.at_end × HasShownAll contents bytes answer
AnswersShowing extent contents (Err fault) bytes = ExplainsShowing extent contents bytes fault

-- A run that shows locks: it answers so to the bytes that it read, and to the whole file, however
-- it came. It writes what the lines that it read give before each further read.
abbrev pub ShowsLocks : {R W : Type 0} → Devices R W → Result LocksReport ListenFault → Type 0
ShowsLocks d outcome = Transfers (line_by_line Read (λ written. Write written)) d outcome
    (λ extent. AnswersShowing extent (contents_of d) outcome)
