-- A chain of runs: each begins with what the one before it left (this profile).
use Rattle.std.specs.Prelude.{◌≡◌, ℕ, List, [], ◌∷◌, map}
use Rattle.std.specs.Io.KnownBytes.{Appends}
use Rattle.std.specs.List.{flat_map}
use Rattle.nx_code.specs.Lists.{last_of}
use Rattle.nx_fec.specs.air_files.AirFile.{Line}
use Rattle.nx_fec.specs.declared.air_files.channel.Channel.{Channel}
use Rattle.nx_fec.specs.Transfers.{Contents}
use Rattle.nx_memory.specs.Memory.{most_entries}
use Rattle.nx_memory.specs.Saved.{SavedState, SavedStates}
use Rattle.nx_memory.specs.declared.memories.entry.MemoryEntry.{MemoryEntry}
use Rattle.nx_copies.specs.Events.{Event, Start, first_setting, setting_after_all}
use Rattle.nx_copies.specs.copies.FoundCopies.{AreFoundIn, FoundCopy, TaggedCopy, tagged_copies}
use Rattle.nx_receiver.specs.air_file_runs.Listen.{IsLogOfFile, events_on}
use Rattle.nx_copies.specs.copies.Printing.{entries_after}
use Rattle.nx_copies.specs.copies.Shares.{MarkedCopy, Starts, saved_of, start_on, starts_from}

-- two lists of entries agree in their last 200: a memory would hold the same of both
abbrev pub AgreeInLast : List MemoryEntry → List MemoryEntry → Type 0
AgreeInLast one other = last_of most_entries one ≡ last_of most_entries other

-- what is left where these events are all: the last 200 of all entries made, and what is refused
-- after all commands
pub record Leaves (start : Start) (events : List Event) (left : SavedState) : Type 0 where
  pub copies : List FoundCopy
  pub found : AreFoundIn events copies
  pub entries : left.entries
      ≡ last_of most_entries
      (entries_after start.entries (tagged_copies (first_setting start) events copies))
  pub refused : left.refused ≡ (setting_after_all (first_setting start) events).refused

-- a run: with what it starts; the bytes that it reads, with their lines; the copies that are found
-- on each channel; and those that it prints, with the bytes of its log
pub record Run : Type 0 where
  pub starts : Starts
  pub file : List ℕ
  pub lines : List Line
  pub found : Channel → List FoundCopy
  pub printed : List MarkedCopy
  pub log : List ℕ

-- what a run gives to the receiver of a channel, and with what that starts
abbrev pub events_in : Channel → Run → List Event
events_in channel run = events_on channel run.lines

abbrev pub start_in : Channel → Run → Start
start_in channel run = start_on run.starts channel

-- the copies of a run on a channel, each with what is in force at its second digit
abbrev pub copies_in : Channel → Run → List TaggedCopy
copies_in channel run =
    tagged_copies (first_setting (start_in channel run)) (events_in channel run)
    (run.found channel)

-- The run starts with what is saved, is read to its end without a fault, has this log, and leaves
-- this.
pub record GoesOn (saved : SavedStates) (run : Run) (left : SavedStates) : Type 0 where
  pub begins : run.starts ≡ starts_from saved
  pub heard : IsLogOfFile run.starts run.file run.lines run.printed run.log
  pub found : (channel : Channel) → AreFoundIn (events_in channel run) (run.found channel)
  pub leaves : (channel : Channel)
      → Leaves (start_in channel run) (events_in channel run) (saved_of left channel)

-- a run that starts with what is saved read the file of these bytes to its end, wrote its log, and
-- leaves this
pub record HasGoneOn (saved : SavedStates) (contents : Contents) (file : List ℕ)
    (left : SavedStates) : Type 0 where
  pub run : Run
  pub read : run.file ≡ file
  pub written : Appends contents.before contents.after run.log
  pub goes : GoesOn saved run left

-- The runs, in order, are a chain: the first starts with `first`, each other with what the run
-- before it left, and the last leaves `last`.
abbrev pub IsChain : SavedStates → List Run → SavedStates → Type 0
IsChain first [] last = last ≡ first
IsChain first (run ∷ runs) last =
    (left : SavedStates) × GoesOn first run left × IsChain left runs last

-- the files that the runs read, in order
abbrev pub files : List Run → List (List ℕ)
files runs = map (λ run. run.file) runs

-- joined, in order: the copies of all runs on a channel, those that are printed, the bytes of the
-- logs, and what was given to the receiver of a channel
abbrev pub all_copies : Channel → List Run → List TaggedCopy
all_copies channel runs = flat_map (copies_in channel) runs

abbrev pub all_printed : List Run → List MarkedCopy
all_printed runs = flat_map (λ run. run.printed) runs

abbrev pub all_logs : List Run → List ℕ
all_logs runs = flat_map (λ run. run.log) runs

abbrev pub all_events : Channel → List Run → List Event
all_events channel runs = flat_map (events_in channel) runs
