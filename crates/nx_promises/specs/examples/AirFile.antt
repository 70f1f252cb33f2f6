-- A worked air file: what arrives of the message EA01 with the one line TEST, sent in the slot of
-- station E. Each DX word of the message is damaged (its words are those of ITU-R M.625's mode B).
use Rattle.std.specs.Prelude.{ℕ, List, ◌∷◌}
use Rattle.nx_fec.specs.air_files.AirFile.{Line, moment}
use Rattle.nx_fec.specs.air_files.BitLines.{bit_lines}
use Rattle.nx_fec.specs.emissions.Emission.{bits_of}
use Rattle.nx_fec.specs.air_files.Lines.{file_of}
use Rattle.nx_promises.specs.examples.Emission.{damaged_words}

-- the moment 2025-01-01 00:40:00, and the elements of the words in lines of 490
abbrev pub example_lines : List Line
example_lines = moment 1735692000 ∷ bit_lines (bits_of damaged_words)

-- the bytes of these lines
abbrev pub example_air_file : List ℕ
example_air_file = file_of example_lines
