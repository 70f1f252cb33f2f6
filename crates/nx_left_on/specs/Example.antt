-- A worked chain of two watches of one log, which is empty at first. On channel 0 the first hears
-- the message EA01 with the one line TEST in the slot of station E, puts its entry, and its power
-- fails. The second starts some time later, hears the message again, and its input ends. Both hear
-- it with each DX word damaged, and nothing on the other channels.
use Rattle.std.specs.Prelude.{ℕ, ◌+◌, List, [], ◌∷◌, ◌++◌, map, Some}
use Rattle.nx_fec.specs.air_files.AirFile.{Line, moment}
use Rattle.nx_fec.specs.air_files.BitLines.{bit_lines}
use Rattle.nx_fec.specs.emissions.Emission.{bits_of}
use Rattle.nx_fec.specs.declared.air_files.channel.Channel.TheVariants.{Zero}
use Rattle.nx_kept.specs.Kept.{closed_gate, open_gate}
use Rattle.nx_promises.specs.examples.Chain.{found_on}
use Rattle.nx_promises.specs.examples.Repeats.{first_copy}
use Rattle.nx_copies.specs.copies.Shares.{MarkedCopy, marked}
use Rattle.nx_promises.specs.examples.Emission.{damaged_words, worked_log}
use Rattle.nx_promises.specs.examples.Together.{twice_heard}
use Rattle.nx_left_on.specs.Chain.{Watch, acting_at, answered, stopped}
use Rattle.nx_watch.specs.Watch.{starts_at}

-- the one entry, and the 44 bytes of the log that holds it
abbrev pub one_entry : List MarkedCopy
one_entry = marked Zero first_copy ∷ []

abbrev pub kept_bytes : List ℕ
kept_bytes = open_gate ∷ worked_log ++ closed_gate ∷ []

-- 2025-01-01 00:40:00, the moment of the first watch, and of its entry
abbrev pub first_moment : ℕ
first_moment = 1735692000

-- this moment, and the elements of the message
abbrev pub lines_at : ℕ → List Line
lines_at now = moment now ∷ bit_lines (bits_of damaged_words)

abbrev pub first_watch : Watch
first_watch = record {
  moment = first_moment;
  sure = lines_at first_moment;
  more = [];
  ending = stopped;
  starts = starts_at first_moment [];
  found = found_on;
  judged = found_on;
  put = one_entry;
  file = kept_bytes;
}

-- the second watch, at this moment
abbrev pub second_watch : ℕ → Watch
second_watch now = record {
  moment = now;
  sure = lines_at now;
  more = [];
  ending = answered;
  starts = starts_at now one_entry;
  found = found_on;
  judged = found_on;
  put = [];
  file = kept_bytes;
}

-- those of the lines of each that act on it
abbrev pub first_acting : List Line
first_acting = acting_at first_moment [] (map Some (lines_at first_moment))

abbrev pub second_acting : ℕ → List Line
second_acting now = acting_at now one_entry (map Some (lines_at now))

-- the two, so many seconds apart
abbrev pub watches_apart : ℕ → List Watch
watches_apart seconds = first_watch ∷ second_watch (first_moment + seconds) ∷ []

-- the two, four hours apart
abbrev pub example_watches : List Watch
example_watches = watches_apart 14400

-- ---- two watches that take sendings together

-- this moment, and the elements of EA01 twice, each time without another letter
abbrev pub twice_lines_at : ℕ → List Line
twice_lines_at now = moment now ∷ bit_lines (bits_of twice_heard)
