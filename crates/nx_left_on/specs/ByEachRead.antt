-- What a watch had told and written by a read of its input (this profile).
use Rattle.std.specs.Prelude.{ℕ, ◌<◌, Bool, List, ◌++◌, drop, length, take, Option}
use Rattle.std.specs.Io.KnownBytes.{Appends, Consumes}
use Rattle.nx_fec.specs.Transfers.{CountedDevice}
use Rattle.nx_fec.specs.air_files.AirFile.{Line}
use Rattle.nx_copies.specs.copies.InTurn.{PrintsInTurnBy}
use Rattle.nx_copies.specs.copies.Log.{IsLog, plain}
use Rattle.nx_copies.specs.copies.Shares.{MarkedCopy}
use Rattle.nx_left_on.specs.Chain.{acting_at}
use Rattle.nx_receiver.specs.air_file_runs.Listen.{given_by}
use Rattle.nx_watch.specs.Acting.{first_without}
use Rattle.nx_watch.specs.AnyLines.{AreLines}
use Rattle.nx_watch.specs.LinesTold.{IsBoth, IsFirstTold, put_told}
use Rattle.nx_watch.specs.Stamp.{Stamp}
use Rattle.nx_watch.specs.LineRun.{HasTold}
use Rattle.nx_watch.specs.Watch.{PrintsUntil, Stop, TellsOfCut, WatchDevices, moments_at, starts_at}

-- By this read of a watch that started at this moment over a file that stands for these entries,
-- the notices had grown by this: what the start cuts of the file; and then what is told of the
-- first line without effect among those that were whole, and of a put that failed, where one had,
-- in the order in which these came.
abbrev pub HadTold : {D R W N : Type 0} → WatchDevices D R W N → ℕ → List MarkedCopy → Bool
    → Stamp D (CountedDevice W) (CountedDevice N) → Type 0
HadTold d now log has_failed at =
    (bytes : List ℕ)
    × Consumes (d.streams.remaining d.streams.reader.inner)
    (d.streams.remaining d.streams.reader_after.inner) bytes
    × (lines : List (Option Line)) × (rest : List ℕ) × AreLines (take at.read bytes) lines rest
    × (cut : List ℕ) × TellsOfCut (d.tells.seen d.start d.disk) cut
    × (one : List ℕ)
    × IsFirstTold (take at.read bytes) lines
    (first_without (moments_at now (starts_at now log)) lines) one
    × (text : List ℕ) × IsBoth one (put_told has_failed) text
    × Appends (d.told d.notices.inner) (d.told at.notices.inner) (cut ++ text)

-- By this read of such a watch the output had grown by the log of the last of the copies, from some
-- one on, that are printed of the lines that were whole.
abbrev pub HadWrittenOn : {D R W N : Type 0} → WatchDevices D R W N → ℕ → List MarkedCopy
    → Stamp D (CountedDevice W) (CountedDevice N) → Type 0
HadWrittenOn d now log at =
    (bytes : List ℕ)
    × Consumes (d.streams.remaining d.streams.reader.inner)
    (d.streams.remaining d.streams.reader_after.inner) bytes
    × (lines : List (Option Line)) × (rest : List ℕ) × AreLines (take at.read bytes) lines rest
    × (printed : List MarkedCopy)
    × PrintsInTurnBy plain (starts_at now log) (given_by (acting_at now log lines)) printed
    × (count : ℕ) × (count < length printed) × (text : List ℕ) × IsLog (drop count printed) text
    × Appends (d.streams.contents d.streams.writer.inner) (d.streams.contents at.writer.inner) text

-- When such a watch was over, the log of the last of its copies, from some one on, was written to
-- the output, or a first part of it, where a write failed.
abbrev pub HasWrittenOn : {D R W N : Type 0} → WatchDevices D R W N → ℕ → List MarkedCopy → Type 0
HasWrittenOn d now log =
    (stop : Stop) × (lines : List (Option Line)) × (copies : List MarkedCopy)
    × PrintsUntil stop (starts_at now log) (given_by (acting_at now log lines)) copies
    × (count : ℕ) × (count < length copies) × (text : List ℕ) × IsLog (drop count copies) text
    × HasTold (d.streams.contents d.streams.writer.inner)
    (d.streams.contents d.streams.writer_after.inner) d.streams.writer_after.failures text
