-- A worked air file of two channels. What arrives of the message EA01 with the one line TEST, sent
-- in the slot of station E, is heard on two frequencies at once, line by line. Each DX word of the
-- message is damaged.
use Rattle.std.specs.Prelude.{ℕ, ◌*◌, Bool, List, [], ◌∷◌, ◌++◌, drop, take, codes, Some, None}
use Rattle.nx_fec.specs.air_files.AirFile.{Line, moment, elements}
use Rattle.nx_fec.specs.emissions.Emission.{bits_of}
use Rattle.nx_fec.specs.declared.air_files.channel.Channel.TheVariants.{One}
use Rattle.nx_promises.specs.examples.Emission.{damaged_words, worked_log}

-- the elements of line i, of 490 each but for the last
abbrev pub part : ℕ → List Bool
part i = take 490 (drop (490 * i) (bits_of damaged_words))

-- line i on channel 0, whose name is left out, and on channel 1
abbrev pub on_both : ℕ → List Line
on_both i = elements None (part i) ∷ elements (Some One) (part i) ∷ []

-- the moment 2025-01-01 00:40:00, and the three lines of elements
abbrev pub two_channels : List Line
two_channels = moment 1735692000 ∷ on_both 0 ++ on_both 1 ++ on_both 2

-- the log of it: the entry of channel 0, and then that of channel 1 with its mark
abbrev pub two_channels_log : List ℕ
two_channels_log = worked_log ++ codes "[EA01/1 2025-01-01 00:40:00 full 0/5]\nTEST\n\n"
