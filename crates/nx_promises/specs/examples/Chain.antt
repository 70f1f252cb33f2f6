-- A worked chain of two runs. On channel 0 the first hears the message EA01 with the one line TEST
-- in the slot of station E. Then the receiver is switched off and on again, and the second hears it
-- four hours later. Both hear it with each DX word damaged, and nothing on the other channels.
use Rattle.std.specs.Prelude.{List, [], ◌∷◌}
use Rattle.nx_fec.specs.air_files.AirFile.{Line, moment}
use Rattle.nx_fec.specs.air_files.BitLines.{bit_lines}
use Rattle.nx_fec.specs.emissions.Emission.{bits_of}
use Rattle.nx_fec.specs.air_files.Lines.{file_of}
use Rattle.nx_station.specs.reception.PathExample.{example_message}
use Rattle.nx_fec.specs.declared.air_files.channel.Channel.{Channel}
use Rattle.nx_fec.specs.declared.air_files.channel.Channel.TheVariants.{Zero}
use Rattle.nx_memory.specs.Saved.{SavedStates, on_channel_0}
use Rattle.nx_receiver.specs.air_file_runs.Chain.{Run}
use Rattle.nx_copies.specs.Events.{none_refused}
use Rattle.nx_promises.specs.examples.Repeats.{first_copy}
use Rattle.nx_copies.specs.copies.FoundCopies.{FoundCopy}
use Rattle.nx_promises.specs.examples.AirFile.{example_air_file, example_lines}
use Rattle.nx_copies.specs.copies.Printing.{entry_of}
use Rattle.nx_copies.specs.laws.Emissions.{copy_of_sending}
use Rattle.nx_copies.specs.copies.Shares.{marked, none_saved, starts_from}
use Rattle.nx_promises.specs.examples.Emission.{damaged_words, worked_log}

-- the copy of the message among these elements: the second digit of its header is element 1,189
abbrev pub copy_heard : FoundCopy
copy_heard = copy_of_sending (record { message = example_message; place = 1189 })

-- it is found on channel 0, and none on the others
abbrev pub found_on : Channel → List FoundCopy
found_on Zero = copy_heard ∷ []
found_on _ = []

-- the first run begins with nothing and prints it
abbrev pub first_run : Run
first_run = record {
  starts = starts_from none_saved;
  file = example_air_file;
  lines = example_lines;
  found = found_on;
  printed = marked Zero first_copy ∷ [];
  log = worked_log;
}

-- its entry is what is saved, of channel 0
abbrev pub saved_after : SavedStates
saved_after =
    on_channel_0 (record { entries = entry_of first_copy ∷ []; refused = none_refused })

-- the moment 2025-01-01 04:40:00, and the same elements
abbrev pub later_lines : List Line
later_lines = moment 1735706400 ∷ bit_lines (bits_of damaged_words)

-- the second run begins with that, and prints nothing
abbrev pub second_run : Run
second_run = record {
  starts = starts_from saved_after;
  file = file_of later_lines;
  lines = later_lines;
  found = found_on;
  printed = [];
  log = [];
}

abbrev pub example_runs : List Run
example_runs = first_run ∷ second_run ∷ []
