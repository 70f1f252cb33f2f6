-- The watch of a chain that a call of `watch` leaves (this profile).
use Rattle.std.specs.Prelude.{◌≡◌, ◌⊎◌, ⊤, ℕ, List, [], length, take, Option, Result, Ok, Err}
use Rattle.std.specs.Io.KnownBytes.{Consumes}
use Rattle.nx_fec.specs.air_files.AirFile.{Line}
use Rattle.nx_fec.specs.Transfers.{Devices, IsReadOut}
use Rattle.nx_left_on.specs.Chain.{Ending, GoesOn, Watch, acting_at, kept_all_at, kept_some_at}
use Rattle.nx_left_on.specs.Chain.{lines_of}
use Rattle.nx_copies.specs.copies.Shares.{MarkedCopy}
use Rattle.nx_watch.specs.Acting.{most_bytes}
use Rattle.nx_watch.specs.AnyLines.{AreLines}
use Rattle.nx_watch.specs.Watch.{HasRead, Stop, moments_at, starts_at}
use Rattle.nx_watch.specs.declared.watch_report.WatchReport.{WatchReport}
use Rattle.nx_watch.specs.declared.watch_fault.WatchFault.{WatchFault}
use Rattle.nx_watch.specs.declared.watch_fault.WatchFault.TheVariants.{Back, Read}

-- the call answered that the lines ended, or went back, or that a read failed: so all is kept
abbrev pub TellsAllKept : Result WatchReport WatchFault → Type 0
TellsAllKept (Ok report) = ⊤
TellsAllKept (Err (Back line last given)) = ⊤
TellsAllKept (Err Read) = ⊤
TellsAllKept (Err _) = ⊥

-- How a call ended, by the file that it left: one of its end, where all is kept; or one that a
-- crash left, or a fault of the disk. That was behind a read before which so many bytes had come,
-- or at any moment of the call, also before its first read.
pub data CallEnd : Type 0 where
  all_kept : CallEnd
  left_behind : ℕ → CallEnd
  left_at_any_moment : CallEnd

-- how the watch ended then that stopped so
abbrev pub ending_by : CallEnd → Stop → Ending
ending_by all_kept stop = kept_all_at stop
ending_by (left_behind read) stop = kept_some_at stop
ending_by left_at_any_moment stop = kept_some_at stop

-- Behind these lines, of those of the bytes, the watch surely read on: behind all; or behind those
-- that were whole of the bytes that had come; or behind none.
abbrev pub AreSure : CallEnd → List ℕ → List (Option Line) → List (Option Line) → Type 0
AreSure all_kept bytes lines sure = sure ≡ lines
AreSure (left_behind read) bytes lines sure =
    (by_then : List (Option Line)) × (rest : List ℕ) × AreLines (take read bytes) by_then rest
    × (sure ≡ take (length by_then) lines)
AreSure left_at_any_moment bytes lines sure = sure ≡ []

-- The watch of a chain is that of a call with these streams, which started at this moment behind
-- these entries, ended so, and left this file. It took the lines that act of those of the bytes
-- that the call read, and read on behind the sure ones. It goes on behind the entries, by what
-- that is for a watch of its kind.
pub record IsOfCallBy {R W : Type 0} (Goes : List MarkedCopy → Watch → Type 0) (d : Devices R W)
    (now : ℕ) (log : List MarkedCopy) (end : CallEnd) (file : List ℕ) (watch : Watch)
    : Type 0 where
  pub bytes : List ℕ
  pub consumed : Consumes (d.remaining d.reader.inner) (d.remaining d.reader_after.inner) bytes
  pub stop : Stop
  pub lines : List (Option Line)
  pub read : HasRead (IsReadOut d ⊎ (length bytes ≡ most_bytes))
      (moments_at now (starts_at now log)) stop bytes lines
  pub sure : List (Option Line)
  pub are_sure : AreSure end bytes lines sure
  pub started : watch.moment ≡ now
  pub took : lines_of watch ≡ acting_at now log lines
  pub read_on : watch.sure ≡ acting_at now log sure
  pub ended : watch.ending ≡ ending_by end stop
  pub left : watch.file ≡ file
  pub goes_on : Goes log watch

-- the same where each copy is judged alone
abbrev pub IsOfCall : {R W : Type 0} → Devices R W → ℕ → List MarkedCopy → CallEnd → List ℕ → Watch
    → Type 0
IsOfCall = IsOfCallBy GoesOn
