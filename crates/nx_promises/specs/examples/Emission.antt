-- A worked emission: the station E sends the message EA01 with the one line TEST in its slot, as
-- the path's example has it. And what a receiver prints of it.
use Rattle.std.specs.Prelude.{ℕ, List, [], ◌++◌, map, codes}
use Rattle.nx_fec.specs.emissions.Emission.{bits_of}
use Rattle.nx_station.specs.reception.Path.{phasing_words}
use Rattle.nx_station.specs.reception.PathExample.{example_words, heard_half}
use Rattle.nx_copies.specs.Events.{Event, element, Start, none_refused}

-- the emission as it is sent: 72 positions of phasing, and the message
unfoldable pub worked_words : List ℕ
worked_words = phasing_words 72 ++ example_words

-- and as it arrives where each DX word of the message is damaged; the first 48 positions of phasing
-- stand before slot 96
unfoldable pub damaged_words : List ℕ
damaged_words = phasing_words 48 ++ heard_half

-- a receiver without entries hears the elements of words, all at one moment: 2025-01-01 00:40:00
abbrev pub at_its_slot : Start
at_its_slot = record { entries = []; moment = 1735692000; refused = none_refused }

abbrev pub heard_elements : List ℕ → List Event
heard_elements words = map element (bits_of words)

-- the log of it, 42 bytes
abbrev pub worked_log : List ℕ
worked_log = codes "[EA01 2025-01-01 00:40:00 full 0/5]\nTEST\n\n"
