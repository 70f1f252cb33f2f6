-- What `navtex watch FILE MOMENT` does, with `--combine` and without it: the log is opened,
-- watched, and handed back (this profile).
use Rattle.std.specs.Prelude.{◌≡◌, ◌++◌, ◌==◌, Bool, true, false, ℕ, List, [], Option, Some, None, Result, Ok, Err}
use Rattle.std.specs.Prelude.{codes, decimal, length}
use Rattle.std.specs.Io.KnownBytes.{Consumes}
use Rattle.clap.specs.Words.{Text}
use Rattle.nx_fec.specs.Transfers.{CountedDevice, Devices}
use Rattle.nx_kept.specs.Disk.{OnlyReads}
use Rattle.nx_kept.specs.Kept.{IsDamaged, IsKeptLog, first_byte}
use Rattle.nx_kept.specs.declared.disk.DiskFile.{Ghosts as TellsOfDisk}
use Rattle.nx_log.specs.Entries.{IsWholeEntry}
use Rattle.nx_log.specs.Notices.{Notices}
use Rattle.nx_log.specs.Reading.{bracket}
use Rattle.nx_combine.specs.CombinedPrinting.{combined}
use Rattle.nx_copies.specs.copies.Log.{Printing, plain}
use Rattle.nx_copies.specs.copies.Shares.{MarkedCopy}
use Rattle.nx_disk.specs.declared.file.FileFault.{FileFault}
use Rattle.nx_disk.specs.declared.file.FileFault.TheVariants as file
use Rattle.nx_watch.specs.Watch.{AnswersWatchBy, FailsWithin, HasCause, RefusesLog}
use Rattle.nx_watch.specs.Watch.{StandsForEntries, WatchDevices, longest_entry}
use Rattle.nx_watch.specs.LineRun.{TellsOfLines}
use Rattle.nx_watch.specs.Stamp.{AreTheReads, CutNote, Stamp}
use Rattle.nx_watch.specs.ToldFirst.{TellsBeforeChange}
use Rattle.nx_watch.specs.declared.watch_fault.WatchFault.{WatchFault}
use Rattle.nx_watch.specs.declared.watch_fault.WatchFault.TheVariants as watch
use Rattle.nx_watch.specs.declared.watch_report.WatchReport.{WatchReport}
use Rattle.nx_program.specs.FaultText.{open_reason}
use Rattle.nx_program.specs.declared.arguments.Sendings.{Sendings}
use Rattle.nx_program.specs.declared.arguments.Sendings.TheVariants.{Alone, Together}
use Rattle.nx_program.specs.declared.fault.Fault.{Fault}
use Rattle.nx_program.specs.declared.fault.Fault.TheVariants as fault
use Rattle.nx_program.specs.declared.watch_command.WatchFailure.{WatchFailure}
use Rattle.nx_program.specs.declared.watch_command.WatchFailure.TheVariants.{Unopened, Ended}

-- What the program has beside its input and its output, as it stands before a call and after it.
-- That is what opens the file of a log, and what opening one may give; that file, where one was
-- opened, and what it tells of itself; and standard error. With them stands what stood at each read
-- of the input of a watch, the last one first; and what stood as its start told what it cuts of the
-- log.
pub record Beside (F D W E : Type 0) : Type 1 where
  pub files : F
  pub gives : F → List ℕ → Result D FileFault → Type 0
  pub disk_after : Option D
  pub tells : TellsOfDisk D
  pub contents : E → Option (List ℕ)
  pub faults : CountedDevice E
  pub faults_after : CountedDevice E
  pub stamps : List (Stamp D (CountedDevice W) (CountedDevice E))
  pub cuts : List (CutNote D (CountedDevice E))

abbrev pub beside : {F D W E : Type 0} → F → (F → List ℕ → Result D FileFault → Type 0) → Option D
    → TellsOfDisk D → (E → Option (List ℕ)) → CountedDevice E → CountedDevice E
    → List (Stamp D (CountedDevice W) (CountedDevice E)) → List (CutNote D (CountedDevice E))
    → Beside F D W E
beside files gives disk_after tells contents faults faults_after stamps cuts = record {
  files = files;
  gives = gives;
  disk_after = disk_after;
  tells = tells;
  contents = contents;
  faults = faults;
  faults_after = faults_after;
  stamps = stamps;
  cuts = cuts;
}

-- the same with standard error as it stood at another moment after the call
abbrev pub with_faults : {F D W E : Type 0} → Beside F D W E → CountedDevice E → Beside F D W E
with_faults b after = record b { faults_after = after }

-- no file was opened, no read was stamped, and no cut was noted
pub record OpensNoFile {F D W E : Type 0} (b : Beside F D W E) : Type 0 where
  pub unopened : b.disk_after ≡ None
  pub unstamped : b.stamps ≡ []
  pub unnoted : b.cuts ≡ []

-- standard error as what it was told between two moments
abbrev pub notices_between : {E : Type 0} → (E → Option (List ℕ)) → CountedDevice E
    → CountedDevice E → Notices
notices_between contents old new = record {
  before = contents old.inner;
  after = contents new.inner;
  failures = new.failures;
}

-- no file was opened, no read was stamped, no cut was noted, and nothing was told on standard error
pub record IsUnused {F D W E : Type 0} (b : Beside F D W E) : Type 0 where
  pub unopened : b.disk_after ≡ None
  pub unstamped : b.stamps ≡ []
  pub unnoted : b.cuts ≡ []
  pub untold : b.faults_after ≡ b.faults

-- whether a file with this first byte begins as an entry does, with its bracket: so does a log that
-- `listen` writes, where one that a watch writes begins with a gate
abbrev pub begins_with_entry : Option ℕ → Bool
begins_with_entry None = false
begins_with_entry (Some byte) = byte == bracket

-- how the line ends that reports a damaged log: of one that begins with an entry it says so
abbrev pub damage_end : Bool → List ℕ
damage_end true = codes ": it begins with an entry, as a log of listen does\n"
damage_end false = codes "\n"

-- the line that reports a failed watch of the log of this name
abbrev pub watch_fault_line : Text → WatchFailure → List ℕ
watch_fault_line name (Unopened (file.Open why)) =
    codes "navtex: the log " ++ (name ++ (codes " can't be opened"
    ++ (open_reason why ++ codes "\n")))
watch_fault_line name (Unopened file.Busy) =
    codes "navtex: another watch has the log " ++ (name ++ codes "\n")
watch_fault_line name (Unopened file.Memory) = codes "navtex: out of memory\n"
watch_fault_line name (Ended watch.Open) =
    codes "navtex: the log " ++ (name ++ codes " can't be opened\n")
watch_fault_line name (Ended (watch.Damaged line first)) =
    codes "navtex: the log " ++ (name ++ (codes " is damaged at line "
    ++ (decimal line ++ damage_end (begins_with_entry first))))
watch_fault_line name (Ended watch.Disk) =
    codes "navtex: the log " ++ (name ++ codes " can't be written\n")
watch_fault_line name (Ended watch.Memory) = codes "navtex: out of memory\n"
watch_fault_line name (Ended watch.Read) = codes "navtex: read failed\n"
watch_fault_line name (Ended (watch.Back line last given)) =
    codes "navtex: line " ++ (decimal line ++ (codes ": moment " ++ (decimal given
    ++ (codes " is before " ++ (decimal last ++ codes "\n")))))

-- what receivers print that take the sendings of a message so: each copy by itself, or all together
abbrev pub printing_of : Sendings → Printing
printing_of Alone = plain
printing_of Together = combined

-- the answer of the watch of the log of this name, as the program tells it
abbrev pub watch_outcome : Text → Result WatchReport WatchFault → Result (Unit {0}) Fault
watch_outcome name (Ok report) = Ok tt
watch_outcome name (Err why) = Err (fault.Watch name (Ended why))

module _ {R W F D E : Type 0} (d : Devices R W) (b : Beside F D W E) where
  -- the devices of the watch of a file, told for this first content of it
  abbrev pub devices_of : D → D → List ℕ → WatchDevices D R W E
  devices_of disk disk_after start =
      record {
        tells = b.tells;
        start = start;
        disk = disk;
        disk_after = disk_after;
        streams = d;
        told = b.contents;
        notices = b.faults;
        notices_after = b.faults_after;
        stamps = b.stamps;
      }

  -- The file was watched from this moment on, with this answer, and stands so now. Something is
  -- said for each first content that explains what it answered. Where it stood for entries, all is
  -- said of what was read, kept, written and told, by how the sendings of a message are taken;
  -- where it was damaged, at which line, and with which byte it begins. Where it was no kept log,
  -- it was refused, and nothing was done but to read it. The disk is blamed only where it failed,
  -- and that was at a place within the file or at its end. Whatever the file was, the stamps are
  -- the reads of the input; what is cut of the file had been told before the file was changed; and
  -- it was told on standard error what is cut, and of some lines, and nothing else.
  pub record WatchesFile (sendings : Sendings) (moment : ℕ) (disk disk_after : D)
      (answer : Result WatchReport WatchFault)
      : Type 0 where
    pub watched : (start : List ℕ) (entries : List MarkedCopy)
        → b.tells.explains start disk_after → StandsForEntries entries (b.tells.seen start disk)
        → AnswersWatchBy (devices_of disk disk_after start) (printing_of sendings) moment entries
        answer
    pub damaged : (start : List ℕ) (line : ℕ) (first : Option ℕ)
        → b.tells.explains start disk_after → answer ≡ Err (watch.Damaged line first)
        → IsDamaged IsWholeEntry longest_entry line (b.tells.seen start disk)
    pub first : (start : List ℕ) (line : ℕ) (first : Option ℕ)
        → b.tells.explains start disk_after → answer ≡ Err (watch.Damaged line first)
        → first ≡ first_byte (b.tells.seen start disk)
    pub foreign : (start : List ℕ) → b.tells.explains start disk_after
        → (IsKeptLog IsWholeEntry longest_entry (b.tells.seen start disk) → ⊥)
        → OnlyReads (b.tells.seen start) (b.tells.may_leave start) b.tells.moment
        (b.tells.left_since start) disk disk_after
        × (d.reader_after ≡ d.reader) × (d.writer_after ≡ d.writer) × (b.faults_after ≡ b.faults)
        × (b.stamps ≡ []) × (b.cuts ≡ [])
    pub stamps : (bytes : List ℕ) × Consumes (d.remaining d.reader.inner)
        (d.remaining d.reader_after.inner) bytes × AreTheReads b.stamps (length bytes)
    pub refused : (start : List ℕ) → b.tells.explains start disk_after
        → (IsKeptLog IsWholeEntry longest_entry (b.tells.seen start disk) → ⊥)
        → RefusesLog (b.tells.seen start disk) answer
    pub cause : HasCause b.tells answer disk disk_after
    pub within : (start : List ℕ) → b.tells.explains start disk_after
        → FailsWithin b.tells start disk disk_after
    pub explained : (start : List ℕ) → b.tells.explains start disk_after
        → b.tells.explains start disk
    pub told_first : (start : List ℕ) → b.tells.explains start disk_after
        → TellsBeforeChange b.tells b.contents disk b.faults [] b.cuts start disk_after
    pub told : TellsOfLines (b.contents b.faults.inner) (b.contents b.faults_after.inner)
        b.faults_after.failures

  -- Where the log can't be had, nothing was read, written or told. Else its file was watched, and
  -- it is handed back.
  abbrev pub WatchesOpened : Sendings → Text → ℕ → Result D FileFault → Result (Unit {0}) Fault
      → Type 0
  WatchesOpened sendings name moment (Err why) outcome =
      (d.reader_after ≡ d.reader) × (d.writer_after ≡ d.writer) × IsUnused b
      × (outcome ≡ Err (fault.Watch name (Unopened why)))
  WatchesOpened sendings name moment (Ok disk) outcome =
      (disk_after : D) × (b.disk_after ≡ Some disk_after)
      × (answer : Result WatchReport WatchFault)
      × WatchesFile sendings moment disk disk_after answer
      × (outcome ≡ watch_outcome name answer)

  -- The log of this name was opened, which gave what opening it may give, and watched from this
  -- moment on, with the sendings of a message taken so.
  abbrev pub WatchesLog : Sendings → Text → ℕ → Result (Unit {0}) Fault → Type 0
  WatchesLog sendings name moment outcome =
      (opened : Result D FileFault) × b.gives b.files name opened
      × WatchesOpened sendings name moment opened outcome
