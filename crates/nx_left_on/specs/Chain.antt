-- A watch of a kept log, and a chain of them: each starts with what the log remembers of all that
-- was put before it (this profile).
use Rattle.std.specs.Prelude.{◌≡◌, ℕ, ◌+◌, ◌<◌, ◌≤◌, List, [], ◌∷◌, ◌++◌}
use Rattle.std.specs.Prelude.{length, Option, ⊤}
use Rattle.std.specs.List.{flat_map}
use Rattle.nx_code.specs.Lists.{Begins}
use Rattle.nx_fec.specs.air_files.AirFile.{Line}
use Rattle.nx_fec.specs.declared.air_files.channel.Channel.{Channel}
use Rattle.nx_log.specs.Logged.{remembered_on}
use Rattle.nx_memory.specs.Memory.{newest_moment, seconds_known}
use Rattle.nx_copies.specs.Events.{Event, Start, elements_among, first_setting}
use Rattle.nx_copies.specs.copies.FoundCopies.{AreFoundIn, FoundCopy, TaggedCopy, ended_so_far, tagged_copies}
use Rattle.nx_copies.specs.copies.InTurn.{PrintAllToEndBy, PrintsInTurnBy}
use Rattle.nx_copies.specs.copies.Log.{Printing, plain}
use Rattle.nx_receiver.specs.air_file_runs.Listen.{events_on, given_by}
use Rattle.nx_copies.specs.copies.Printing.{printed_copies}
use Rattle.nx_copies.specs.copies.Shares.{Given, MarkedCopy, Starts, copies_on, start_on}
use Rattle.nx_sync.specs.Locks.{IsNow, Lock, Now}
use Rattle.nx_watch.specs.Acting.{acting_lines}
use Rattle.nx_watch.specs.Watch.{StandsForEntries, Stop, moments_at, starts_at, unread, unwritten}

-- ---- a watch

-- How a watch ended. It answered Ok or `Back`, which closed the copies that stood open. Or a crash,
-- `Read` or `Disk` ended it, after an entry of such a copy was put, or before any was.
pub data Ending : Type 0 where
  answered : Ending
  stopped_closing : Ending
  stopped : Ending

-- A watch: its MOMENT, how it ended, and with what it started. Its lines are those that acted:
-- those behind which it read on before any fault of the disk, and then those behind which it
-- didn't. Its copies are those that were found on each channel, and those of them that were judged
-- before it ended. Then come the entries that it put, and the bytes that its log then has.
pub record Watch : Type 0 where
  pub moment : ℕ
  pub sure : List Line
  pub more : List Line
  pub ending : Ending
  pub starts : Starts
  pub found : Channel → List FoundCopy
  pub judged : Channel → List FoundCopy
  pub put : List MarkedCopy
  pub file : List ℕ

-- all lines that acted
abbrev pub lines_of : Watch → List Line
lines_of watch = watch.sure ++ watch.more

-- what a watch gave to the receiver of a channel, and with what that started
abbrev pub events_in : Channel → Watch → List Event
events_in channel watch = events_on channel (lines_of watch)

abbrev pub start_in : Channel → Watch → Start
start_in channel watch = start_on watch.starts channel

-- the copies that a watch judged on a channel, each with what was in force at its second digit
abbrev pub copies_in : Channel → Watch → List TaggedCopy
copies_in channel watch =
    tagged_copies (first_setting (start_in channel watch)) (events_in channel watch)
    (watch.judged channel)

-- these are the copies that had ended after these events
pub record HadEnded (events : List Event) (copies : List FoundCopy) : Type 0 where
  pub locks : List Lock
  pub now : Now
  pub stands : IsNow (elements_among events) locks now
  pub whole : copies ≡ ended_so_far (elements_among events) locks now

-- the copies that are found of a watch that ended so: where no open copy was closed, those that had
-- ended
abbrev pub AreFoundOf : Ending → List Event → List FoundCopy → Type 0
AreFoundOf stopped events copies = HadEnded events copies
AreFoundOf ending events copies = AreFoundIn events copies

-- and what is printed of them, by what a receiver prints
abbrev pub PrintOfBy : Printing → Ending → Starts → List Given → List MarkedCopy → Type 0
PrintOfBy printing stopped = PrintsInTurnBy printing
PrintOfBy printing ending = PrintAllToEndBy printing

-- where it answered, it read on behind all lines, and put all that was printed
abbrev pub PutAll : Ending → List Line → List MarkedCopy → List MarkedCopy → Type 0
PutAll answered more printed put = (more ≡ []) × (put ≡ printed)
PutAll ending more printed put = ⊤

-- The watch started behind these entries of its log, and took the lines that act of `said`, the
-- lines that it was given: each as it is understood, or `None` where it isn't. What it put begins
-- `printed`, what they print. It is at least `surely`, all that is printed of those behind which it
-- read on, which surely stands in the log; and all, where the watch answered. Its log then stands
-- for the entries from before and for these.
pub record PutsBy (printing : Printing) (log : List MarkedCopy) (watch : Watch) : Type 0 where
  pub begins : watch.starts ≡ starts_at watch.moment log
  pub said : List (Option Line)
  pub acted : lines_of watch ≡ acting_lines (moments_at watch.moment watch.starts) said
  pub printed : List MarkedCopy
  pub prints : PrintOfBy printing watch.ending watch.starts (given_by (lines_of watch)) printed
  pub most : Begins watch.put printed
  pub surely : List MarkedCopy
  pub in_turn : PrintsInTurnBy printing watch.starts (given_by watch.sure) surely
  pub least : Begins surely watch.put
  pub all : PutAll watch.ending watch.more printed watch.put
  pub stands : StandsForEntries (log ++ watch.put) watch.file

-- the same where each copy is judged alone
abbrev pub Puts : List MarkedCopy → Watch → Type 0
Puts = PutsBy plain

-- those of these lines that act on a watch that started at this moment behind these entries
abbrev pub acting_at : ℕ → List MarkedCopy → List (Option Line) → List Line
acting_at now log lines = acting_lines (moments_at now (starts_at now log)) lines

-- At some moment these were the lines, of all lines of a watch that started so, that had been read
-- whole. All that is printed in turn of those of them that act is among so many copies.
pub record HadReadBy (printing : Printing) (now : ℕ) (log : List MarkedCopy)
    (lines by_then : List (Option Line)) (count : ℕ)
    : Type 0 where
  pub begins : Begins by_then lines
  pub surely : List MarkedCopy
  pub in_turn : PrintsInTurnBy printing (starts_at now log)
      (given_by (acting_at now log by_then)) surely
  pub least : length surely ≤ count

-- the same where each copy is judged alone
abbrev pub HadRead : ℕ → List MarkedCopy → List (Option Line) → List (Option Line) → ℕ → Type 0
HadRead = HadReadBy plain

-- how a watch ends that stops so, where it kept all that its lines print, and where it kept less
abbrev pub kept_all_at : Stop → Ending
kept_all_at unread = stopped
kept_all_at unwritten = stopped
kept_all_at stop = answered

abbrev pub kept_some_at : Stop → Ending
kept_some_at unread = stopped
kept_some_at unwritten = stopped
kept_some_at stop = stopped_closing

-- A watch that started at this moment behind these entries of its log, and ended so, took these
-- lines that act. It read on behind the sure ones of them, put these copies, and left these bytes.
pub record IsLeftPrinting (printing : Printing) (now : ℕ) (log : List MarkedCopy) (ending : Ending)
    (lines sure : List Line) (put : List MarkedCopy) (file : List ℕ)
    : Type 0 where
  pub watch : Watch
  pub started : watch.moment ≡ now
  pub ended : watch.ending ≡ ending
  pub took : lines_of watch ≡ lines
  pub read_on : watch.sure ≡ sure
  pub kept : watch.put ≡ put
  pub left : watch.file ≡ file
  pub puts : PutsBy printing log watch

-- the same where each copy is judged alone
abbrev pub IsLeftBy : ℕ → List MarkedCopy → Ending → List Line → List Line → List MarkedCopy
    → List ℕ → Type 0
IsLeftBy = IsLeftPrinting plain

-- The copies that it judged on a channel begin those that were found, and what is printed of them
-- is what it put. Those that had ended in the lines behind which it read on are among them.
pub record Judges (channel : Channel) (watch : Watch) : Type 0 where
  pub found : AreFoundOf watch.ending (events_in channel watch) (watch.found channel)
  pub begins : Begins (watch.judged channel) (watch.found channel)
  pub put : copies_on channel watch.put
      ≡ printed_copies (watch.starts.entries channel) (copies_in channel watch)
  pub surely : (ended : List FoundCopy) → HadEnded (events_on channel watch.sure) ended
      → Begins ended (watch.judged channel)

-- the watch goes on behind these entries of its log
pub record GoesOn (log : List MarkedCopy) (watch : Watch) : Type 0 where
  pub puts : Puts log watch
  pub judges : (channel : Channel) → Judges channel watch

-- the watch, where these copies were found and these of them judged
abbrev pub with_copies : Watch → (Channel → List FoundCopy) → (Channel → List FoundCopy) → Watch
with_copies watch found judged = record watch { found = found; judged = judged }

-- ---- a chain of watches

-- The watches, in order, are a chain behind these entries of their log: each starts behind these
-- and what the watches before it put.
abbrev pub IsChain : List MarkedCopy → List Watch → Type 0
IsChain log [] = ⊤
IsChain log (watch ∷ watches) = GoesOn log watch × IsChain (log ++ watch.put) watches

-- The same of what the watches put, by what their receivers print.
abbrev pub IsChainBy : Printing → List MarkedCopy → List Watch → Type 0
IsChainBy printing log [] = ⊤
IsChainBy printing log (watch ∷ watches) =
    PutsBy printing log watch × IsChainBy printing (log ++ watch.put) watches

-- joined, in order: what all watches put, and the copies that they judged on a channel
abbrev pub all_put : List Watch → List MarkedCopy
all_put watches = flat_map (λ watch. watch.put) watches

abbrev pub all_copies : Channel → List Watch → List TaggedCopy
all_copies channel watches = flat_map (copies_in channel) watches

-- No MOMENT lies 66 hours or more before the newest entry that the log remembers of the channel.
abbrev pub ClocksAreNear : Channel → List MarkedCopy → List Watch → Type 0
ClocksAreNear channel log [] = ⊤
ClocksAreNear channel log (watch ∷ watches) =
    (newest_moment (remembered_on channel log) < watch.moment + seconds_known)
    × ClocksAreNear channel (log ++ watch.put) watches
