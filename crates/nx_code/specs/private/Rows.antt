-- The code's own table, its rows and indexes. What the calls answer by them is said by the table of
-- specs/Table.antt.
use Rattle.std.specs.Prelude.{ℕ, ◌-◌, ◌==◌, ◌&&◌, nat_le, nat_lt, if◌then◌else◌, Option, Some, None, List, codes}
use Rattle.std.specs.Option.{option_to_list, option_map_or}
use Rattle.nx_code.specs.declared.names.Name.{Name}
use Rattle.nx_code.specs.declared.names.Name.TheVariants.{CarriageReturn, LineFeed, LetterShift, FigureShift, Space, Blank, PhasingOne, Beta, PhasingTwo}
use Rattle.nx_code.specs.declared.shifts.Case.{Case}
use Rattle.nx_code.specs.declared.shifts.Case.TheVariants as cases
use Rattle.nx_code.specs.declared.shifts.Shift.{Shift}
use Rattle.nx_code.specs.declared.shifts.Shift.TheVariants.{Letters, Figures}
use Rattle.nx_code.specs.declared.table.Row.{Row}
use Rattle.nx_code.specs.Reading.{capital_a, capital_z, newline, space}

-- what a row prints in a shift
abbrev pub character_in : Row → Shift → Option ℕ
character_in row Letters = row.letter
character_in row Figures = row.figure

-- the name as the table has it
abbrev pub name_text : Name → List ℕ
name_text CarriageReturn = codes "CR"
name_text LineFeed = codes "LF"
name_text LetterShift = codes "LTRS"
name_text FigureShift = codes "FIGS"
name_text Space = codes "SPACE"
name_text Blank = codes "BLANK"
name_text PhasingOne = codes "P1"
name_text Beta = codes "BETA"
name_text PhasingTwo = codes "P2"

-- what stands in the column of a shift: the name, where there is one, else the character, if any
abbrev pub cell_in : Row → Shift → List ℕ
cell_in row shift = option_map_or name_text row.name (option_to_list (character_in row shift))

-- the place that a number of an index gives: 35 is none
abbrev pub place_given : ℕ → Option ℕ
place_given place = if nat_lt place 35 then Some place else None

-- the place of a combination, one below its class; class 0 has none
abbrev pub place_below : ℕ → Option ℕ
place_below class = if class == 0 then None else Some (class - 1)

-- in which shifts a character of the code is printed: a letter in letters, a newline and a space in
-- both, and each other in figures
abbrev pub case_kept : ℕ → Case
case_kept character =
    if character == newline
    then cases.Either
    else (if character == space
    then cases.Either
    else (if nat_le capital_a character && nat_le character capital_z
    then cases.Letters
    else cases.Figures))

-- the byte that a table of bytes gives: 0 is none
abbrev pub byte_given : ℕ → Option ℕ
byte_given byte = if byte == 0 then None else Some byte
