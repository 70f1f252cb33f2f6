-- A receiver that is left on, and the kept log that is its memory too (this profile).
use Rattle.std.specs.Prelude.{◌≡◌, ◌≢◌, ◌⊎◌, ◌↔◌, ℕ, ◌+◌, ◌<◌, ◌≤◌, Bool, true, false, List, [], ◌∷◌, ◌++◌}
use Rattle.std.specs.Prelude.{suc, length, take, drop, Option, Some, Result, Ok, Err, ⊤, IsTrue}
use Rattle.std.specs.List.{All, AllZip}
use Rattle.std.specs.Io.KnownBytes.{Appends, Consumes}
use Rattle.nx_envelope.specs.Copies.{most_found}
use Rattle.nx_fec.specs.air_files.AirFile.{Line, moment}
use Rattle.nx_fec.specs.Transfers.{CountedDevice, Devices, IsReadOut, count_of}
use Rattle.nx_fec.specs.declared.air_files.channel.Channel.{Channel}
use Rattle.nx_fec.specs.declared.air_files.channel.Channel.TheVariants.{Zero, One, Two}
use Rattle.nx_kept.specs.Disk.{FailedOnce, LeavesOnly, OnlyReads}
use Rattle.nx_kept.specs.Kept.{IsBehindOpenGates, IsDamaged, StandsFor, closed_gate, line_behind}
use Rattle.nx_kept.specs.Taker.{cut_of}
use Rattle.nx_kept.specs.declared.disk.DiskFile.{Ghosts as TellsOfDisk}
use Rattle.nx_log.specs.Entries.{IsWholeEntry}
use Rattle.nx_log.specs.Logged.{IsLoggedAs, is_text_byte, remembered_on}
use Rattle.nx_memory.specs.Saved.{SavedState, SavedStates}
use Rattle.nx_copies.specs.Events.{Event, Start, none_refused}
use Rattle.nx_copies.specs.copies.FoundCopies.{TaggedCopy}
use Rattle.nx_copies.specs.copies.InTurn.{PrintAllToEndBy, PrintsInTurnBy}
use Rattle.nx_receiver.specs.air_file_runs.Listen.{given_by}
use Rattle.nx_copies.specs.copies.Log.{IsLog, Printing, plain}
use Rattle.nx_copies.specs.copies.Shares.{Given, MarkedCopy, Starts, starts_from}
use Rattle.nx_watch.specs.Acting.{acting_lines, count_without, ends_watch, first_without, goes_on}
use Rattle.nx_watch.specs.Acting.{in_force, moments_behind, most_bytes}
use Rattle.nx_watch.specs.AnyLines.{AreLines, cut_line}
use Rattle.nx_watch.specs.CutTold.{AreHeads, cut_told}
use Rattle.nx_watch.specs.Start.{remembered_at}
use Rattle.nx_watch.specs.LineRun.{HasTold, StopsBehind}
use Rattle.nx_watch.specs.LinesTold.{IsToldAtEnd, IsToldByRead}
use Rattle.nx_watch.specs.Stamp.{AreTheReads, LastGaveNone, Stamp}
use Rattle.nx_watch.specs.declared.lines.line_effects.StartMoments.{StartMoments}
use Rattle.nx_watch.specs.declared.watch_report.WatchReport.{WatchReport}
use Rattle.nx_watch.specs.declared.watch_fault.WatchFault.{WatchFault}
use Rattle.nx_watch.specs.declared.watch_fault.WatchFault.TheVariants.{Open, Damaged, Disk, Memory}
use Rattle.nx_watch.specs.declared.watch_fault.WatchFault.TheVariants.{Read, Back}

-- ---- what a file stands for, and what is remembered of it

-- the most bytes of a logged entry
abbrev pub longest_entry : ℕ
longest_entry = 4146

-- The bytes of a file stand for these logged entries: it is a kept log of their bytes.
pub record StandsForEntries (entries : List MarkedCopy) (file : List ℕ) : Type 0 where
  pub texts : List (List ℕ)
  pub each : AllZip IsLoggedAs entries texts
  pub stands : StandsFor IsWholeEntry longest_entry texts file

-- The file is at rest with these logged entries: it is their bytes, each behind an open gate, and
-- one closed gate, with nothing behind it.
pub record RestsWithEntries (entries : List MarkedCopy) (file : List ℕ) : Type 0 where
  pub texts : List (List ℕ)
  pub each : AllZip IsLoggedAs entries texts
  pub front : List ℕ
  pub kept : IsBehindOpenGates IsWholeEntry texts front
  pub whole : file ≡ front ++ closed_gate ∷ []

-- The text tells what a start cuts of a file that stands for logged entries, whose bytes are these
-- texts: the bytes of its tail behind a closed gate, or a byte that is no closed gate.
pub record TellsOfCut (file text : List ℕ) : Type 0 where
  pub texts : List (List ℕ)
  pub stands : StandsFor IsWholeEntry longest_entry texts file
  pub heads : List (List ℕ)
  pub are : AreHeads (cut_of stands.tail) heads
  pub told : text ≡ cut_told (line_behind stands.front) (cut_of stands.tail) heads

-- what is remembered of a channel by these entries, at this moment; everything is selected
abbrev pub saved_at : ℕ → List MarkedCopy → Channel → SavedState
saved_at now entries channel = record {
  refused = none_refused;
  entries = remembered_at now (remembered_on channel entries);
}

abbrev pub all_saved_at : ℕ → List MarkedCopy → SavedStates
all_saved_at now entries = record {
  on_0 = saved_at now entries Zero;
  on_1 = saved_at now entries One;
  on_2 = saved_at now entries Two;
}

-- with what a watch starts at this moment, over a kept log of these entries
abbrev pub starts_at : ℕ → List MarkedCopy → Starts
starts_at now entries = starts_from (all_saved_at now entries)

-- the moments with which a watch starts at this one, with this
abbrev pub moments_at : ℕ → Starts → StartMoments
moments_at now starts = record { newest = starts.moment; started = now }

-- ---- the lines of a watch, and what they print

-- How a watch stops: at the end of its input, or of the bytes that it reads at most; at a failed
-- read; or at a failed write of what the disk didn't take. Or it stops behind the line of this
-- number, which ends it, and goes back from the last moment to the given one.
pub data Stop : Type 0 where
  at_end : Stop
  back : ℕ → ℕ → ℕ → Stop
  unread : Stop
  unwritten : Stop

-- These are the lines of the bytes that were read until the watch stopped so, a cut last one and
-- the one that ends the watch too. Where the input didn't end, it stopped behind the end of a line.
-- `first` is the moments with which it started.
abbrev pub HasRead : Type 0 → StartMoments → Stop → List ℕ → List (Option Line) → Type 0
HasRead AtEnd first at_end bytes lines =
    AtEnd × (whole : List (Option Line)) × (rest : List ℕ) × AreLines bytes whole rest
    × (lines ≡ whole ++ cut_line rest) × (goes_on first whole ≡ true)
HasRead AtEnd first (back line last given) bytes lines =
    (before : List (Option Line)) × (lines ≡ before ++ Some (moment given) ∷ [])
    × StopsBehind first bytes before (moment given)
    × (ends_watch first.newest (moments_behind first before) (Some (moment given)) ≡ true)
    × (line ≡ length lines) × (last ≡ in_force first.newest (moments_behind first before))
HasRead AtEnd first unread bytes lines =
    (rest : List ℕ) × AreLines bytes lines rest × (goes_on first lines ≡ true)
HasRead AtEnd first unwritten bytes lines =
    (before : List (Option Line)) × (line : Line) × (lines ≡ before ++ Some line ∷ [])
    × StopsBehind first bytes before line

-- a copy can stand in a log, but for its moment: it was selected, and its text has at most 4,100
-- bytes, each a byte of a text
pub record IsLoggable (copy : TaggedCopy) : Type 0 where
  pub short : length copy.text ≤ most_found
  pub text : All (λ byte. IsTrue (is_text_byte byte)) copy.text
  pub selected : copy.selected ≡ true

-- what is printed so, of whatever a receiver is given, can stand in a log
abbrev pub PrintsLoggable : Printing → Type 0
PrintsLoggable printing =
    (start : Start) (events : List Event) (log : List TaggedCopy)
    → printing.to_end start events log → All IsLoggable log

-- The copies that are printed of what was given until the watch stopped so. The end of the input
-- closes the copies that stand open, and so does the line that ends the watch.
abbrev pub PrintsUntilBy : Printing → Stop → Starts → List Given → List MarkedCopy → Type 0
PrintsUntilBy printing at_end = PrintAllToEndBy printing
PrintsUntilBy printing (back line last given) = PrintAllToEndBy printing
PrintsUntilBy printing unread = PrintsInTurnBy printing
PrintsUntilBy printing unwritten = PrintsInTurnBy printing

-- the same where each copy is judged alone
abbrev pub PrintsUntil : Stop → Starts → List Given → List MarkedCopy → Type 0
PrintsUntil = PrintsUntilBy plain

-- what a watch answers that stopped so, where the disk didn't fail: it read these lines, and put
-- these copies
abbrev pub AnswersStop : StartMoments → Stop → List (Option Line) → List MarkedCopy
    → Result WatchReport WatchFault → Type 0
AnswersStop first at_end lines copies (Ok report) =
    (report.lines ≡ length lines) × (report.without_effect ≡ count_without first lines)
    × (report.first_without_effect ≡ first_without first lines)
    × (report.put ≡ count_of (length copies))
AnswersStop first (back line last given) lines copies (Err (Back number from to)) =
    (number ≡ line) × (from ≡ last) × (to ≡ given)
AnswersStop first unread lines copies (Err Read) = ⊤
AnswersStop first stop lines copies outcome = ⊥

-- ---- what a watch has at hand

-- The file of a watch, its input and its output, and its notices, where it tells of lines without
-- effect: as they stand before it and after it, and what they tell of themselves. What the file
-- tells is told for `start`, its first content. With them stands what stood at each read of the
-- input, the last one first.
pub record WatchDevices (D R W E : Type 0) : Type 1 where
  pub tells : TellsOfDisk D
  pub start : List ℕ
  pub disk : D
  pub disk_after : D
  pub streams : Devices R W
  pub told : E → Option (List ℕ)
  pub notices : CountedDevice E
  pub notices_after : CountedDevice E
  pub stamps : List (Stamp D (CountedDevice W) (CountedDevice E))

-- how many writes failed: where the watch stopped at a failed read, none; where it stopped at a
-- failed write, that one; where it closed what stood open, at most one, in the closings
abbrev pub FailsWrites : Stop → ℕ → Type 0
FailsWrites at_end failures = failures ≤ 1
FailsWrites (back line last given) failures = failures ≤ 1
FailsWrites unread failures = failures ≡ 0
FailsWrites unwritten failures = failures ≡ 1

-- The last read of a watch that stopped so and read so many bytes: where the input had ended, that
-- read found it, and at the limit of bytes no further one was made; a failed read is the last one.
abbrev pub EndsAtRead : {D W N : Type 0} → Stop → ℕ → List (Stamp D W N) → Type 0
EndsAtRead at_end total stamps = LastGaveNone stamps ⊎ (total ≡ most_bytes)
EndsAtRead (back line last given) total stamps = ⊤
EndsAtRead unread total stamps = LastGaveNone stamps
EndsAtRead unwritten total stamps = ⊤

module _ {D R W E : Type 0} (d : WatchDevices D R W E) where
  -- each file that a crash may leave when all is over has this
  abbrev pub LeavesAtLast : (List ℕ → Type 0) → Type 0
  LeavesAtLast P = (file : List ℕ) → d.tells.may_leave d.start d.disk_after file → P file

  -- A crash at any moment, from before the first call on, leaves what it could leave before that,
  -- or a file that has this.
  abbrev pub LeavesAtAnyMoment : (List ℕ → Type 0) → Type 0
  LeavesAtAnyMoment P = LeavesOnly d.tells.moment (d.tells.left_since d.start) d.disk d.disk_after
      (λ file. d.tells.may_leave d.start d.disk file ⊎ P file)

  -- At a read no put had failed, and these copies had been printed. Nothing had been written. Each
  -- file that a crash leaves from then on stands for the entries and a beginning of all copies of
  -- the watch, with at least those.
  pub record HadKept (entries printed copies : List MarkedCopy)
      (at : Stamp D (CountedDevice W) (CountedDevice E))
      : Type 0 where
    pub well : d.tells.faults at.disk ≡ d.tells.faults d.disk
    pub silent : at.writer ≡ d.streams.writer
    pub left : (file : List ℕ)
        → d.tells.left_since d.start d.disk_after (d.tells.moment at.disk) file
        → (count : ℕ) × (length printed ≤ count) × (count ≤ length copies)
        × StandsForEntries (entries ++ take count copies) file

  -- At a read a put had failed. From it on the copies printed by then had been written, as the log
  -- has them, and no write had failed.
  pub record HadWritten (printed : List MarkedCopy)
      (at : Stamp D (CountedDevice W) (CountedDevice E))
      : Type 0 where
    pub failed : d.tells.faults at.disk ≡ suc (d.tells.faults d.disk)
    pub count : ℕ
    pub fewer : count < length printed
    pub log : List ℕ
    pub spelled : IsLog (drop count printed) log
    pub written : Appends (d.streams.contents d.streams.writer.inner)
        (d.streams.contents at.writer.inner) log
    pub well : at.writer.failures ≡ 0

  -- What the start cut of this file had been told, and then this text, as these notices stood; or
  -- a write of that had failed.
  abbrev pub HasToldBehindCut : List ℕ → CountedDevice E → List ℕ → Type 0
  HasToldBehindCut file at text =
      (cut : List ℕ) × TellsOfCut file cut
      × HasTold (d.told d.notices.inner) (d.told at.inner) at.failures (cut ++ text)

  -- whether a call of the disk had failed since the watch began, as the disk stood
  abbrev pub HadFailed : Bool → D → Type 0
  HadFailed false at = d.tells.faults at ≡ d.tells.faults d.disk
  HadFailed true at = d.tells.faults at ≡ suc (d.tells.faults d.disk)

  -- Behind what the start cut, this had been told, of which this holds for a put that had failed by
  -- then or none.
  abbrev pub HasToldOf : List ℕ → D → CountedDevice E → (Bool → List ℕ → Type 0) → Type 0
  HasToldOf file at notices IsTold =
      (failed : Bool) × HadFailed failed at × (text : List ℕ) × IsTold failed text
      × HasToldBehindCut file notices text

  -- What stood at a read of a watch that opened this file, started so at this moment, and printed
  -- these copies in all, where `bytes` are those of its input. The lines that were whole had been
  -- taken, and none ended the watch. What they print had been kept, or written from a failed put
  -- on. What the start cut had been told, the first of the lines without effect, and a put that had
  -- failed, or a write of that had failed.
  pub record StoodOverBy (printing : Printing) (file : List ℕ) (now : ℕ) (starts : Starts)
      (entries : List MarkedCopy) (bytes : List ℕ) (copies : List MarkedCopy)
      (at : Stamp D (CountedDevice W) (CountedDevice E))
      : Type 0 where
    pub within : at.read ≤ length bytes
    pub lines : List (Option Line)
    pub rest : List ℕ
    pub whole : AreLines (take at.read bytes) lines rest
    pub on : goes_on (moments_at now starts) lines ≡ true
    pub printed : List MarkedCopy
    pub prints : PrintsInTurnBy printing starts
        (given_by (acting_lines (moments_at now starts) lines)) printed
    pub kept : HadKept entries printed copies at ⊎ HadWritten printed at
    pub told : HasToldOf file at.disk at.notices
        (IsToldByRead (moments_at now starts) (take at.read bytes) lines)

  -- All copies are kept behind the entries, on the disk, and nothing was written. The file is at
  -- rest.
  pub record KeepsAll (entries copies : List MarkedCopy) : Type 0 where
    pub rests : RestsWithEntries (entries ++ copies) (d.tells.seen d.start d.disk_after)
    pub found : StandsForEntries (entries ++ copies) (d.tells.seen d.start d.disk_after)
    pub left : LeavesAtLast (StandsForEntries (entries ++ copies))
    pub silent : d.streams.writer_after ≡ d.streams.writer

  -- The disk failed as a copy was put: those before it are kept behind the entries, and it may be
  -- kept too. From it on the copies were written, as the log has them, up to a failed write.
  pub record KeepsSome (entries copies : List MarkedCopy) : Type 0 where
    pub count : ℕ
    pub fewer : count < length copies
    pub left : LeavesAtLast (λ file. StandsForEntries (entries ++ take count copies) file
        ⊎ StandsForEntries (entries ++ take (count + 1) copies) file)
    pub log : List ℕ
    pub spelled : IsLog (drop count copies) log
    pub written : HasTold (d.streams.contents d.streams.writer.inner)
        (d.streams.contents d.streams.writer_after.inner) d.streams.writer_after.failures log

  -- A watch that opened this file, which stands for these entries, and started so at this moment
  -- read these lines until it stopped so. They print these copies. At each moment a crash leaves
  -- what it could leave before, or a file that stands for the entries and a beginning of the
  -- copies. What the start cut was told, and what is told of the lines. The stamps are the reads of
  -- the input. At each of them all of that stood already, of the lines that were whole by then. A
  -- read failed exactly where it stopped at a failed read; a write failed only where it stopped at
  -- that, or closed.
  pub record HasWatchedOverBy (printing : Printing) (file : List ℕ) (now : ℕ) (starts : Starts)
      (entries : List MarkedCopy) (stop : Stop)
      (lines : List (Option Line)) (copies : List MarkedCopy)
      : Type 0 where
    pub bytes : List ℕ
    pub consumed : Consumes (d.streams.remaining d.streams.reader.inner)
        (d.streams.remaining d.streams.reader_after.inner) bytes
    pub within : length bytes ≤ most_bytes
    pub read : HasRead (IsReadOut d.streams ⊎ (length bytes ≡ most_bytes)) (moments_at now starts)
        stop bytes lines
    pub printed : PrintsUntilBy printing stop starts
        (given_by (acting_lines (moments_at now starts) lines)) copies
    pub stamps : AreTheReads d.stamps (length bytes)
    pub last_read : EndsAtRead stop (length bytes) d.stamps
    pub before_each_read :
        All (StoodOverBy printing file now starts entries bytes copies) d.stamps
    pub any_moment : LeavesAtAnyMoment (λ file. (count : ℕ) × (count ≤ length copies)
        × StandsForEntries (entries ++ take count copies) file)
    pub failed_read : (stop ≡ unread) ↔ (d.streams.reader_after.failures ≡ 1)
    pub failed_write : FailsWrites stop d.streams.writer_after.failures
    pub notices_told : HasToldOf file d.disk_after d.notices_after
        (IsToldAtEnd (moments_at now starts) bytes lines)

  -- Only the file was touched, and at each moment a crash leaves what it could leave before, or a
  -- file that stands for the entries. What is to be cut of it was told; or nothing was told, and
  -- the file is only read.
  pub record HasOpened (entries : List MarkedCopy) : Type 0 where
    pub any_moment : LeavesAtAnyMoment (StandsForEntries entries)
    pub unread : d.streams.reader_after ≡ d.streams.reader
    pub unstamped : d.stamps ≡ []
    pub unwritten : d.streams.writer_after ≡ d.streams.writer
    pub told : HasToldBehindCut (d.tells.seen d.start d.disk) d.notices_after []
        ⊎ ((d.notices_after ≡ d.notices)
        × OnlyReads (d.tells.seen d.start) (d.tells.may_leave d.start) d.tells.moment
        (d.tells.left_since d.start) d.disk d.disk_after)

  -- What a watch answers that opened this file, which stands for these entries, and started so at
  -- this moment. All copies are kept, and how it stopped is answered. Or the disk failed as a copy
  -- was put, which is answered, whatever else ended the watch then.
  abbrev pub AnswersOverBy : Printing → List ℕ → ℕ → Starts → List MarkedCopy
      → Result WatchReport WatchFault → Type 0
  AnswersOverBy printing file now starts entries outcome =
      (stop : Stop) × (lines : List (Option Line)) × (copies : List MarkedCopy)
      × HasWatchedOverBy printing file now starts entries stop lines copies
      × ((KeepsAll entries copies
      × AnswersStop (moments_at now starts) stop lines copies outcome)
      ⊎ (KeepsSome entries copies × (outcome ≡ Err Disk)))

  -- the same over the file as it stood before the watch
  abbrev pub AnswersStartedBy : Printing → ℕ → Starts → List MarkedCopy
      → Result WatchReport WatchFault → Type 0
  AnswersStartedBy printing now starts entries outcome =
      AnswersOverBy printing (d.tells.seen d.start d.disk) now starts entries outcome

  -- What a watch answers that started at this moment over a file that stands for these entries.
  -- Such a file is never damaged. Where it couldn't be opened, or memory ran out, only the file was
  -- touched.
  abbrev pub AnswersWatchBy : Printing → ℕ → List MarkedCopy → Result WatchReport WatchFault
      → Type 0
  AnswersWatchBy printing now entries (Err Open) = HasOpened entries
  AnswersWatchBy printing now entries (Err Memory) = HasOpened entries
  AnswersWatchBy printing now entries (Err (Damaged line first)) = ⊥
  AnswersWatchBy printing now entries (Err Disk) =
      HasOpened entries
      ⊎ AnswersStartedBy printing now (starts_at now entries) entries (Err Disk)
  AnswersWatchBy printing now entries outcome =
      AnswersStartedBy printing now (starts_at now entries) entries outcome

  -- what a started call answers, where each copy is judged alone; and what any call does
  abbrev pub AnswersStarted : ℕ → Starts → List MarkedCopy → Result WatchReport WatchFault
      → Type 0
  AnswersStarted = AnswersStartedBy plain

  abbrev pub AnswersWatch : ℕ → List MarkedCopy → Result WatchReport WatchFault → Type 0
  AnswersWatch = AnswersWatchBy plain

-- Why a watch answers so: a call of the disk failed, and it was the last one; or none failed.
abbrev pub HasCause : {D : Type 0} → TellsOfDisk D → Result WatchReport WatchFault → D → D → Type 0
HasCause tells (Err Open) old new =
    FailedOnce (tells.faults old) (tells.faults new) (tells.has_failed_to_read new)
HasCause tells (Err Disk) old new =
    FailedOnce (tells.faults old) (tells.faults new) (tells.has_failed_to_write new)
HasCause tells outcome old new = tells.faults new ≡ tells.faults old

-- A call of the disk that failed, where one did, was at a place within the file or at its end,
-- where the file had these bytes at first.
abbrev pub FailsWithin : {D : Type 0} → TellsOfDisk D → List ℕ → D → D → Type 0
FailsWithin tells start old new =
    tells.faults new ≢ tells.faults old → tells.has_failed_within start new

-- What a watch answers of a file that is no kept log: it is damaged at its line, or a call of the
-- disk failed, or memory ran out.
abbrev pub RefusesLog : List ℕ → Result WatchReport WatchFault → Type 0
RefusesLog file (Err (Damaged line first)) = IsDamaged IsWholeEntry longest_entry line file
RefusesLog file (Err Open) = ⊤
RefusesLog file (Err Disk) = ⊤
RefusesLog file (Err Memory) = ⊤
RefusesLog file outcome = ⊥
