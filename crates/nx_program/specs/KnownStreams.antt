-- What `listen` and `watch` make of an input that tells its bytes, and of an output that tells what
-- it holds (this profile).
use Rattle.std.specs.Prelude.{◌≡◌, ◌++◌, ℕ, List, [], Option, Some, Result, true}
use Rattle.nx_copies.specs.copies.InTurn.{PrintAllToEndBy}
use Rattle.nx_copies.specs.copies.Log.{Printing}
use Rattle.nx_copies.specs.copies.Shares.{MarkedCopy, all_at_zero}
use Rattle.nx_disk.specs.declared.file.FileFault.{FileFault}
use Rattle.nx_fec.specs.Transfers.{CountedDevice, Devices, devices}
use Rattle.nx_fec.specs.air_files.AirFile.{Line}
use Rattle.nx_kept.specs.declared.disk.DiskFile.{Ghosts as TellsOfDisk}
use Rattle.nx_left_on.specs.Chain.{acting_at}
use Rattle.nx_receiver.specs.air_file_runs.Listen.{HasListenFault, IsLogOfBy, IsLogOfLinesBy}
use Rattle.nx_receiver.specs.air_file_runs.Listen.{given_by}
use Rattle.nx_receiver.specs.declared.air_file_runs.listen_fault.ListenFault.{ListenFault}
use Rattle.nx_watch.specs.Acting.{goes_on}
use Rattle.nx_watch.specs.AnyLines.{AreLines, cut_line}
use Rattle.nx_watch.specs.Stamp.{CutNote, Stamp}
use Rattle.nx_watch.specs.Watch.{RestsWithEntries, moments_at, starts_at}
use Rattle.nx_program.specs.WatchCommand.{Beside, beside}

-- What a run of the program has at hand, by values alone: its input, its output and standard error,
-- as they stand before it and after it, and what opens a log. Then come the file of that log, where
-- one was opened, what stood at each read of a watch, and what stood as its start told what it
-- cuts.
pub record RunAtHand (F D R W E : Type 0) : Type 0 where
  pub reader : CountedDevice R
  pub reader_after : CountedDevice R
  pub writer : CountedDevice W
  pub writer_after : CountedDevice W
  pub faults : CountedDevice E
  pub faults_after : CountedDevice E
  pub files : F
  pub disk_after : Option D
  pub stamps : List (Stamp D (CountedDevice W) (CountedDevice E))
  pub cuts : List (CutNote D (CountedDevice E))

-- its input and its output, by what these tell of their bytes
abbrev pub streams_in : {F D R W E : Type 0} → (R → Option (List ℕ)) → (W → Option (List ℕ))
    → RunAtHand F D R W E → Devices R W
streams_in remaining contents run =
    devices remaining contents run.reader run.reader_after run.writer run.writer_after

-- what it has beside these, by what opening a log may give, and by what that and standard error
-- tell
abbrev pub beside_in : {F D R W E : Type 0} → (F → List ℕ → Result D FileFault → Type 0)
    → TellsOfDisk D → (E → Option (List ℕ)) → RunAtHand F D R W E → Beside F D W E
beside_in gives tells told run =
    beside run.files gives run.disk_after tells told run.faults run.faults_after run.stamps
    run.cuts

-- before a run the input tells that it has these bytes left, and the output that it holds these
pub record TellBytes {R W : Type 0} (d : Devices R W) (input held : List ℕ) : Type 0 where
  pub left : d.remaining d.reader.inner ≡ Some input
  pub holds : d.contents d.writer.inner ≡ Some held

-- after the run the output tells that it holds these bytes
abbrev pub Holds : {R W : Type 0} → Devices R W → List ℕ → Type 0
Holds d bytes = d.contents d.writer_after.inner ≡ Some bytes

-- after the run the input tells that nothing is left of it
abbrev pub IsSpent : {R W : Type 0} → Devices R W → Type 0
IsSpent d = d.remaining d.reader_after.inner ≡ Some []

-- The input was read to its end. Behind what the output held it holds the log of the air file of
-- exactly these bytes, and nothing else.
pub record HoldsLogOf {R W : Type 0} (printing : Printing) (d : Devices R W) (input held : List ℕ)
    : Type 0 where
  pub spent : IsSpent d
  pub log : List ℕ
  pub is_log : IsLogOfBy printing all_at_zero input log
  pub written : Holds d (held ++ log)

-- behind what the output held it holds the log of these lines, of which nothing is closed, and
-- nothing else
abbrev pub HoldsLogOfLines : {R W : Type 0} → Printing → Devices R W → List ℕ → List Line → Type 0
HoldsLogOfLines printing d held lines =
    (log : List ℕ) × IsLogOfLinesBy printing all_at_zero lines log × Holds d (held ++ log)

-- The air file of exactly these bytes has a fault, its first, and the output holds the log of the
-- whole lines before it.
abbrev pub HoldsLogBeforeFault : {R W : Type 0} → Printing → Devices R W → List ℕ → List ℕ → Type 0
HoldsLogBeforeFault printing d input held =
    (why : ListenFault) × HasListenFault all_at_zero (HoldsLogOfLines printing d held) input why

-- A watch that started at this moment over a file that stands for these entries read its input to
-- its end. Its lines are those of exactly these bytes, with a last one that is cut, and none ends
-- the watch. What those of them print that act is kept behind the entries in this file, which is at
-- rest, and the output holds what it held.
pub record KeepsLogOf {R W : Type 0} (printing : Printing) (d : Devices R W)
    (input held : List ℕ) (now : ℕ) (entries : List MarkedCopy) (file : List ℕ)
    : Type 0 where
  pub spent : IsSpent d
  pub lines : List (Option Line)
  pub cut : List ℕ
  pub are : AreLines input lines cut
  pub on : goes_on (moments_at now (starts_at now entries)) lines ≡ true
  pub copies : List MarkedCopy
  pub printed : PrintAllToEndBy printing (starts_at now entries)
      (given_by (acting_at now entries (lines ++ cut_line cut))) copies
  pub kept : RestsWithEntries (entries ++ copies) file
  pub silent : Holds d held
