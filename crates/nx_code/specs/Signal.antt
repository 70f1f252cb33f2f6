-- The signals of the table (ITU-R M.476, M.625).
use Rattle.std.specs.Prelude.{ℕ, ◌-◌, List, [], slice_index, slice_index_or}
use Rattle.nx_code.specs.declared.signals.Signal.{Signal}
use Rattle.nx_code.specs.declared.signals.Signal.TheVariants.{Traffic, Alpha, Beta, Repeat}
use Rattle.nx_code.specs.declared.shifts.Shift.{Shift}
use Rattle.nx_code.specs.Table.{Row, row, table, words, cell}

-- the place of a signal in the table, from 0
abbrev pub place : Signal → ℕ
place (Traffic comb) = comb.number - 1
place Alpha = 32
place Beta = 33
place Repeat = 34

-- the number of the word that stands for a signal
abbrev pub number_of_signal : Signal → ℕ
number_of_signal signal = slice_index words (place signal)

-- the row of a signal
abbrev pub row_of_signal : Signal → Row
row_of_signal signal = slice_index_or table (place signal) (row 0x00 [] [])

-- what stands for a signal in the column of a shift
abbrev pub cell_of_signal : Signal → Shift → List ℕ
cell_of_signal signal shift = cell shift (row_of_signal signal)
