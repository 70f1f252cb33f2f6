-- Watches on both sides of each bound in what the law of a message that stands in the log once asks
-- for (this profile).
use Rattle.std.specs.Prelude.{ℕ, zero, suc, ◌+◌, List, [], ◌∷◌, ◌++◌, codes, replicate, false, None, Some}
use Rattle.nx_envelope.specs.declared.found.How.TheVariants.{Full}
use Rattle.nx_fec.specs.declared.air_files.channel.Channel.TheVariants.{Zero}
use Rattle.nx_log.specs.declared.queries.query.Query.{Query}
use Rattle.nx_memory.specs.Memory.{seconds_known}
use Rattle.nx_memory.specs.declared.memories.entry.MemoryEntry.{MemoryEntry}
use Rattle.nx_copies.specs.copies.FoundCopies.{TaggedCopy}
use Rattle.nx_copies.specs.copies.Shares.{MarkedCopy, marked}
use Rattle.nx_promises.specs.examples.Repeats.{eb02, first_copy, heard_at}
use Rattle.nx_station.specs.reception.PathExample.{ea01}
use Rattle.nx_watch.specs.Watch.{starts_at}
use Rattle.nx_left_on.specs.Chain.{Watch, stopped}
use Rattle.nx_left_on.specs.Example.{first_moment, first_watch, second_watch}

-- a watch that started at this moment, heard nothing, and put these entries
abbrev pub silent_watch : ℕ → List MarkedCopy → Watch
silent_watch moment put = record {
  moment = moment;
  sure = [];
  more = [];
  ending = stopped;
  starts = starts_at moment [];
  found = λ channel. [];
  judged = λ channel. [];
  put = put;
  file = [];
}

-- the first watch of the worked chain, behind one entry of EA01, with this moment
abbrev pub watch_behind : ℕ → Watch
watch_behind moment = record first_watch {
  starts = starts_at first_moment (marked Zero (heard_at moment ea01 Full (codes "TEST\n")) ∷ []);
}

-- so many entries of EB02
abbrev pub other_entries : ℕ → List MarkedCopy
other_entries count = replicate count (marked Zero (heard_at first_moment eb02 Full []))

-- the worked chain, four hours apart, where a watch between the two puts so many other entries
abbrev pub watches_between : ℕ → List Watch
watches_between count =
    first_watch ∷ silent_watch first_moment (other_entries count) ∷ second_watch 1735706400 ∷ []

-- an entry of EB02, 66 hours newer than the one entry of the worked chain
abbrev pub newer_entry : List MarkedCopy
newer_entry = marked Zero (heard_at 1735929600 eb02 Full []) ∷ []

-- the query for all entries since a moment
abbrev pub asks_since : ℕ → Query
asks_since first = record {
  stations = None;
  subjects = None;
  channel = None;
  since = Some first;
  until = None;
  good = false;
  last = false;
}

-- ---- one receiver

-- the entry of EA01 with this moment
abbrev pub entry_then : ℕ → MemoryEntry
entry_then moment = record { identity = ea01; moment = moment }

-- so many copies of EB02, the first at this moment, each 66 hours behind the one before it, so that
-- each is printed and entered
abbrev pub spaced : ℕ → ℕ → List TaggedCopy
spaced moment zero = []
spaced moment (suc count) = heard_at moment eb02 Full [] ∷ spaced (moment + seconds_known) count

-- EA01 is heard, then so many of these from 66 hours later on, and EA01 again
abbrev pub copies_between : ℕ → List TaggedCopy
copies_between count =
    first_copy ∷ (spaced (first_moment + seconds_known) count ++ first_copy ∷ [])
