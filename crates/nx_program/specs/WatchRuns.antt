-- Runs of `navtex watch FILE MOMENT` over one log, one after another, and what the log holds then:
-- without `--combine` and with it (this profile).
use Rattle.std.specs.Prelude.{◌≡◌, ◌⊎◌, ⊤, ℕ, List, [], ◌∷◌, ◌++◌, Contains, Option, Some}
use Rattle.std.specs.Prelude.{Result, Ok, Err}
use Rattle.clap.specs.Words.{Text}
use Rattle.nx_disk.specs.Fresh.{IsFresh}
use Rattle.nx_disk.specs.declared.file.FileFault.{FileFault}
use Rattle.nx_combine.specs.CombinedPrinting.{combined}
use Rattle.nx_envelope.specs.Message.{MessageView}
use Rattle.nx_fec.specs.Transfers.{CountedDevice, Devices, devices}
use Rattle.nx_fec.specs.declared.air_files.channel.Channel.{Channel}
use Rattle.nx_kept.specs.declared.disk.DiskFile.{Ghosts as TellsOfDisk}
use Rattle.nx_left_on.specs.Call.{CallEnd, IsOfCallBy, TellsAllKept, all_kept, left_at_any_moment}
use Rattle.nx_left_on.specs.Call.{left_behind}
use Rattle.nx_left_on.specs.Chain.{ClocksAreNear, GoesOn, IsChain, IsChainBy, PutsBy, Watch, all_put}
use Rattle.nx_left_on.specs.LeftOn.{IsHeardInTimeOver}
use Rattle.nx_left_on.specs.Together.{IsKeptWhole}
use Rattle.nx_copies.specs.copies.Shares.{MarkedCopy, copies_on}
use Rattle.nx_copies.specs.laws.Once.{IsPrintedOnce}
use Rattle.nx_station.specs.reception.Sendings.{Part}
use Rattle.nx_watch.specs.Stamp.{CutNote, Stamp}
use Rattle.nx_watch.specs.Watch.{StandsForEntries}
use Rattle.nx_program.specs.WatchCommand.{Beside, WatchesLog, beside}
use Rattle.nx_program.specs.declared.arguments.Sendings.{Sendings}
use Rattle.nx_program.specs.declared.arguments.Sendings.TheVariants.{Alone, Together}
use Rattle.nx_program.specs.declared.fault.Fault.{Fault}
use Rattle.nx_program.specs.declared.fault.Fault.TheVariants as fault
use Rattle.nx_program.specs.declared.watch_command.WatchFailure.TheVariants.{Ended}

-- How a run ended: it was over, with all kept; or a crash, or a fault of the disk, cut it off.
-- That was behind a read of its input, or at any moment from the opening of its log on, also before
-- its first read.
pub data RunEnd (A : Type 0) : Type 0 where
  kept_all : RunEnd A
  cut_behind : A → RunEnd A
  cut_at_any_moment : RunEnd A

-- A run of the program as a watch, by values alone: the name of its log, its MOMENT, and what opens
-- the log. Then come its input, its output and standard error, as they stand before the watch and
-- after it, the file that is handed back, what stood at each read of the input and as the start
-- told what it cuts, and what the program answers. And there are the bytes that it found in the
-- log, those that it left, and how it ended.
pub record WatchRun (F D R W E : Type 0) : Type 0 where
  pub name : Text
  pub moment : ℕ
  pub files : F
  pub reader : CountedDevice R
  pub reader_after : CountedDevice R
  pub writer : CountedDevice W
  pub writer_after : CountedDevice W
  pub faults : CountedDevice E
  pub faults_after : CountedDevice E
  pub disk_after : Option D
  pub stamps : List (Stamp D (CountedDevice W) (CountedDevice E))
  pub cuts : List (CutNote D (CountedDevice E))
  pub outcome : Result (Unit {0}) Fault
  pub found : List ℕ
  pub left : List ℕ
  pub ended : RunEnd (Stamp D (CountedDevice W) (CountedDevice E))

-- the run succeeded, or its lines went back, or a read failed: so all is kept
abbrev pub HasKeptAll : Result (Unit {0}) Fault → Type 0
HasKeptAll (Ok done) = ⊤
HasKeptAll (Err (fault.Watch name (Ended why))) = TellsAllKept (Err why)
HasKeptAll (Err _) = ⊥

-- whatever entries the one file stands for, the other stands for them too
abbrev pub StandsAlike : List ℕ → List ℕ → Type 0
StandsAlike one other = (entries : List MarkedCopy) → StandsForEntries entries one
    → StandsForEntries entries other

-- no call was made of a log that opening it gives
abbrev pub OpensFresh : {F D : Type 0} → (F → List ℕ → Result D FileFault → Type 0)
    → TellsOfDisk D → Type 0
OpensFresh {F} {D} gives tells = (files : F) (name : Text) (disk : D) → gives files name (Ok disk)
    → (first : List (List ℕ)) × IsFresh tells first disk

-- a crash may leave a file as a read finds it
abbrev pub MayBeLeftAsFound : {D : Type 0} → TellsOfDisk D → Type 0
MayBeLeftAsFound {D} tells =
    (start : List ℕ) (disk : D) → tells.may_leave start disk (tells.seen start disk)

-- the bytes that the last of the runs left, or these, where there is none
abbrev pub left_last : {F D R W E : Type 0} → List ℕ → List (WatchRun F D R W E) → List ℕ
left_last file [] = file
left_last file (run ∷ runs) = left_last run.left runs

-- how the call of the watch ended in a run that ended so
abbrev pub call_end : {D W E : Type 0} → RunEnd (Stamp D W E) → CallEnd
call_end kept_all = all_kept
call_end (cut_behind at) = left_behind at.read
call_end cut_at_any_moment = left_at_any_moment

-- what it is for a watch to go on behind entries, by how it takes the sendings of a message
abbrev pub GoesOnTaking : Sendings → List MarkedCopy → Watch → Type 0
GoesOnTaking Alone = GoesOn
GoesOnTaking Together = PutsBy combined

module _ {F D R W E : Type 0} (gives : F → List ℕ → Result D FileFault → Type 0)
    (tells : TellsOfDisk D) (remaining : R → Option (List ℕ)) (contents : W → Option (List ℕ))
    (told : E → Option (List ℕ)) where
  abbrev pub streams_of : WatchRun F D R W E → Devices R W
  streams_of run =
      devices remaining contents run.reader run.reader_after run.writer run.writer_after

  abbrev pub beside_of : WatchRun F D R W E → Beside F D W E
  beside_of run =
      beside run.files gives run.disk_after tells told run.faults run.faults_after run.stamps
      run.cuts

  -- These bytes are what a run could leave in this file that ended so. Where it was over and kept
  -- all, that is what a read finds then, or what a crash may leave. Else a crash leaves it at some
  -- moment: from that read on, by which no call of the disk had failed; or from the opening on.
  abbrev pub Leaves : WatchRun F D R W E → D → RunEnd (Stamp D (CountedDevice W) (CountedDevice E))
      → List ℕ → Type 0
  Leaves run disk kept_all left =
      HasKeptAll run.outcome
      × ((tells.seen run.found disk ≡ left) ⊎ tells.may_leave run.found disk left)
  Leaves run disk (cut_behind at) left =
      Contains run.stamps at × (tells.faults at.disk ≡ 0)
      × tells.left_since run.found disk (tells.moment at.disk) left
  Leaves run disk cut_at_any_moment left = tells.left_since run.found disk 0 left

  -- it could leave them in the file that it handed back
  abbrev pub CouldLeave : WatchRun F D R W E → List ℕ → Type 0
  CouldLeave run left =
      (disk : D) × (run.disk_after ≡ Some disk) × Leaves run disk run.ended left

  -- The run did what the program says of a watch that takes the sendings of a message so. What it
  -- found explains what its file answered, and it left what it could leave.
  pub record WasRun (sendings : Sendings) (run : WatchRun F D R W E) : Type 0 where
    pub watched :
        WatchesLog (streams_of run) (beside_of run) sendings run.name run.moment run.outcome
    pub disk : D
    pub handed_back : run.disk_after ≡ Some disk
    pub explained : tells.explains run.found disk
    pub has_left : Leaves run disk run.ended run.left

  -- Of a run that was cut off at any moment: what a crash could leave before its first call had
  -- this, or it stands for the same entries as what the run found.
  abbrev pub ComesBehind : (List ℕ → Type 0) → WatchRun F D R W E
      → RunEnd (Stamp D (CountedDevice W) (CountedDevice E)) → Type 0
  ComesBehind Could run kept_all = ⊤
  ComesBehind Could run (cut_behind at) = ⊤
  ComesBehind Could run cut_at_any_moment = (disk : D) (file : List ℕ)
      → gives run.files run.name (Ok disk) → tells.may_leave run.found disk file
      → Could file ⊎ StandsAlike run.found file

  -- The runs follow one another over a log that has these bytes, and could have been left as these.
  -- Each found what the one before left, or what stands for the same entries. What a crash could
  -- leave before it is what the one before could leave.
  abbrev pub FollowOn : Sendings → List ℕ → (List ℕ → Type 0) → List (WatchRun F D R W E) → Type 0
  FollowOn sendings file Could [] = ⊤
  FollowOn sendings file Could (run ∷ runs) =
      StandsAlike file run.found × WasRun sendings run × ComesBehind Could run run.ended
      × FollowOn sendings run.left (CouldLeave run) runs

  -- The runs, one after another, take the sendings of a message so. They are of one log that had
  -- these bytes at first, and could have been left as no others.
  abbrev pub AreOfOneLog : Sendings → List ℕ → List (WatchRun F D R W E) → Type 0
  AreOfOneLog sendings file runs = FollowOn sendings file (λ other. other ≡ file) runs

  -- A run that left these bytes left this file: the same, or what the next one left in turn, which
  -- was cut off at any moment.
  abbrev pub IsLeftOver : List ℕ → List (WatchRun F D R W E) → List ℕ → Type 0
  IsLeftOver left [] file = file ≡ left
  IsLeftOver left (next ∷ runs) file =
      (file ≡ left) ⊎ ((next.ended ≡ cut_at_any_moment) × IsLeftOver next.left runs file)

  -- The watch is that of the run behind these entries, which left this, with these runs behind it.
  -- It goes on as watches do that take the sendings of a message so.
  pub record IsWatchOf (sendings : Sendings) (log : List MarkedCopy) (run : WatchRun F D R W E)
      (runs : List (WatchRun F D R W E)) (watch : Watch)
      : Type 0 where
    pub file : List ℕ
    pub could : CouldLeave run file
    pub left_over : IsLeftOver run.left runs file
    pub called : IsOfCallBy (GoesOnTaking sendings) (streams_of run) run.moment log
        (call_end run.ended) file watch

  -- Each is the watch of a run, in order, behind these entries and all put before. A run that was
  -- cut off at any moment may have none: then it left what the one before could leave, or what
  -- stands for the same entries.
  abbrev pub AreWatchesOf : Sendings → List MarkedCopy → List (WatchRun F D R W E) → List Watch
      → Type 0
  AreWatchesOf sendings log [] [] = ⊤
  AreWatchesOf sendings log [] (watch ∷ watches) = ⊥
  AreWatchesOf sendings log (run ∷ runs) [] =
      (run.ended ≡ cut_at_any_moment) × AreWatchesOf sendings log runs []
  AreWatchesOf sendings log (run ∷ runs) (watch ∷ watches) =
      (IsWatchOf sendings log run runs watch
      × AreWatchesOf sendings (log ++ watch.put) runs watches)
      ⊎ ((run.ended ≡ cut_at_any_moment) × AreWatchesOf sendings log runs (watch ∷ watches))

  -- The runs are a chain of watches behind these entries. What the last of them left stands for the
  -- entries, and then for the joined entries of what each put. Where no clock is 66 hours behind, a
  -- message that is heard in time over the watches has exactly one entry of its channel among
  -- these: full, with 0 errors, letter for letter.
  pub record KeepsOnce (log : List MarkedCopy) (file : List ℕ) (runs : List (WatchRun F D R W E))
      : Type 0 where
    pub watches : List Watch
    pub of_runs : AreWatchesOf Alone log runs watches
    pub chain : IsChain log watches
    pub stands : StandsForEntries (log ++ all_put watches) (left_last file runs)
    pub once : (channel : Channel) (message : MessageView) → ClocksAreNear channel log watches
        → IsHeardInTimeOver channel watches message
        → IsPrintedOnce message (copies_on channel (all_put watches))

  -- The same of runs that take sendings together. What a watch of them heard together stands in the
  -- log whole, and isn't put again.
  pub record KeepsWhole (log : List MarkedCopy) (file : List ℕ) (runs : List (WatchRun F D R W E))
      : Type 0 where
    pub watches : List Watch
    pub of_runs : AreWatchesOf Together log runs watches
    pub chain : IsChainBy combined log watches
    pub stands : StandsForEntries (log ++ all_put watches) (left_last file runs)
    pub whole : (before after : List Watch) (watch : Watch) → watches ≡ before ++ watch ∷ after
        → (channel : Channel) (parts : List Part) (message : MessageView) (numbers : List ℕ)
        → IsKeptWhole (log ++ all_put before) watch after channel parts message numbers
