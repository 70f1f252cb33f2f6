-- How the receivers of a watch stand, and what is kept of what they print.
use Rattle.std.specs.Prelude.{◌≡◌, ℕ, ◌≤◌, List, ⊤, Option, Result}
use Rattle.std.specs.List.{All, AllZip}
use Rattle.nx_envelope.specs.Moment.{last_moment}
use Rattle.nx_fec.specs.air_files.AirFile.{Line, moment}
use Rattle.nx_fec.specs.Transfers.{CountedDevice}
use Rattle.nx_kept.specs.declared.disk.DiskFile.{Ghosts as TellsOfDisk}
use Rattle.nx_log.specs.Logged.{IsLoggedAs}
use Rattle.nx_receiver.specs.air_file_runs.Listen.{given_by}
use Rattle.nx_receiver.specs.ChannelReceiver.{ReceiverKind}
use Rattle.nx_receiver.specs.Listener.{HearsBy, ListeningOver, moment_in_force, starts_by}
use Rattle.nx_copies.specs.copies.InTurn.{PrintAllToEndBy}
use Rattle.nx_copies.specs.copies.Log.{Printing}
use Rattle.nx_copies.specs.copies.Shares.{Given, MarkedCopy, Starts}
use Rattle.nx_watch.specs.private.LineRun.{TakerRelation, WereGiven, force_behind}
use Rattle.nx_watch.specs.Watch.{AnswersOverBy, FailsWithin, HasCause, PrintsLoggable, TellsOfCut}
use Rattle.nx_watch.specs.Watch.{WatchDevices}
use Rattle.nx_watch.specs.declared.kept_log.keeper.Keeper.{Keeper}
use Rattle.nx_watch.specs.declared.watch_fault.WatchFault.{WatchFault}
use Rattle.nx_watch.specs.declared.watch_report.WatchReport.{WatchReport}
use Rattle.nx_watch.specs.declared.logging_listener.LoggingListener.{LoggingListener}
use Rattle.nx_watch.specs.private.Keeping.{HasKept, KeepsTexts, KeepsWith}

-- the moment of a line, if it says one, is in range
abbrev pub IsLineInRange : Line → Type 0
IsLineInRange (moment n) = n ≤ last_moment
IsLineInRange line = ⊤

-- the moment of a copy is in range
abbrev pub IsCopyInRange : MarkedCopy → Type 0
IsCopyInRange one = one.copy.moment ≤ last_moment

-- the receivers of a watch and who keeps what they print, where the receivers are these
abbrev pub LoggingOver : Type 0 → Type 0 → Type 0
LoggingOver D C = LoggingListener D (ListeningOver C)

-- the receivers of a watch, and the writer that has what their disk didn't take
pub record LoggingTo (D C W : Type 0) : Type 0 where
  pub logging : LoggingOver D C
  pub writer : CountedDevice W

abbrev pub logging_to : {D C W : Type 0} → LoggingOver D C → CountedDevice W → LoggingTo D C W
logging_to logging writer = record { logging = logging; writer = writer }

-- Since the start the lines were taken, and the input ended: the copies that they print then were
-- kept.
pub record HasClosed {D W : Type 0} (printing : Printing) (disk : TellsOfDisk D)
    (contents : W → Option (List ℕ)) (starts : Starts) (start now : Keeper D)
    (before after : CountedDevice W) (lines : List Line)
    : Type 0 where
  pub copies : List MarkedCopy
  pub printed : PrintAllToEndBy printing starts (given_by lines) copies
  pub texts : List (List ℕ)
  pub each : AllZip IsLoggedAs copies texts
  pub kept : KeepsWith disk contents start now before after texts

module _ {D C : Type 0} (kind : ReceiverKind C) (disk : TellsOfDisk D) where
  -- Since start it took these lines: it printed copies of them, and kept their entries, and gave
  -- these bytes to a writer. The moment in force of its receivers is that of the lines.
  pub record KeepsLines (start now : LoggingOver D C) (lines : List Line) (given : List ℕ)
      : Type 0 where
    pub loggable : PrintsLoggable kind.printing
    pub first : (starts_by kind start.listener).moment ≤ last_moment
    pub in_range : All IsLineInRange lines
    pub force : moment_in_force (starts_by kind start.listener).moment (given_by lines)
        ≡ force_behind (starts_by kind start.listener).moment lines
    pub copies : List MarkedCopy
    pub heard : HearsBy kind (starts_by kind start.listener) now.listener (given_by lines) copies
    pub texts : List (List ℕ)
    pub each : AllZip IsLoggedAs copies texts
    pub kept : HasKept disk start.keeper now.keeper texts given

  -- Since start they took these lines, and their writer was given the bytes.
  abbrev pub TakesLines : {W : Type 0} → (W → Option (List ℕ)) → TakerRelation (LoggingTo D C W)
  TakesLines contents start now lines =
      (given : List ℕ) × KeepsLines start.logging now.logging lines given
      × WereGiven contents start.writer now.writer given

  -- Since start it was given this, and its writer bytes: it printed copies, and kept their entries.
  pub record KeepsHeard {W : Type 0} (contents : W → Option (List ℕ))
      (start now : LoggingOver D C) (before after : CountedDevice W) (given : List Given)
      : Type 0 where
    pub copies : List MarkedCopy
    pub heard : HearsBy kind (starts_by kind start.listener) now.listener given copies
    pub texts : List (List ℕ)
    pub each : AllZip IsLoggedAs copies texts
    pub kept : KeepsWith disk contents start.keeper now.keeper before after texts

  -- One that had heard and kept nothing ran over its input, and started at this moment, behind this
  -- text on the notices: with what it had at hand, by each first content of the file, it answers so
  -- of the entries that its log kept, where the text tells what was cut of the file. The outcome
  -- has its cause; a call that failed was at a place within the file or at its end; and the file
  -- after it tells of itself what it told before.
  pub record HasRun {R W E : Type 0} (started : ℕ) (cut : List ℕ)
      (logging : LoggingOver D C)
      (at_hand : List ℕ → WatchDevices D R W E) (outcome : Result WatchReport WatchFault)
      (device : D) : Type 0 where
    pub answers : (content file : List ℕ) (entries : List MarkedCopy) (texts : List (List ℕ))
        → TellsOfCut file cut → AllZip IsLoggedAs entries texts
        → KeepsTexts disk content texts logging.keeper
        → AnswersOverBy (at_hand content) kind.printing file started
        (starts_by kind logging.listener) entries outcome
    pub cause : HasCause disk outcome logging.keeper.log.device device
    pub within : (content : List ℕ) (texts : List (List ℕ))
        → KeepsTexts disk content texts logging.keeper
        → FailsWithin disk content logging.keeper.log.device device
    pub explained : (content : List ℕ) → disk.explains content device
        → disk.explains content logging.keeper.log.device
