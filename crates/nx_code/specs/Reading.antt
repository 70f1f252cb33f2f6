-- What is printed of the positions that were taken (ITU-R M.476 and M.625). That a lost position
-- prints `*` is this profile's, as is that combination 32 and the figures of D, F, G, H and J print
-- nothing.
use Rattle.std.specs.Prelude.{◌≡◌, ◌⊎◌, ℕ, ◌==◌, if◌then◌else◌, List, [], ◌∷◌, ◌++◌, Option, Some, None, unwrap_or, Bool, codes, false, true, ◌≤◌}
use Rattle.std.specs.Option.{option_and_then, option_to_list}
use Rattle.std.specs.List.{fold, list_any}
use Rattle.nx_code.specs.declared.shifts.Shift.{Shift}
use Rattle.nx_code.specs.declared.shifts.Shift.TheVariants.{Letters, Figures}
use Rattle.nx_code.specs.Table.{cell, row_of}
use Rattle.nx_code.specs.Table.{figure_shift, letter_shift, line_feed, space_combination}
use Rattle.nx_code.specs.declared.shifts.Case.{Case}
use Rattle.nx_code.specs.declared.shifts.Case.TheVariants as cases

-- a position that was taken: a traffic combination by its number, an idle signal, or one that is
-- lost
pub data Reception : Type 0 where
  combination : ℕ → Reception
  idle : Reception
  lost : Reception

-- the character that a cell holds; an empty cell has none, and a name is none
abbrev pub character_of_cell : List ℕ → Option ℕ
character_of_cell (c ∷ []) = Some c
character_of_cell cell = None

-- the newline, which a line feed prints and which ends each line of a text
abbrev pub newline : ℕ
newline = 10

-- the space
abbrev pub space : ℕ
space = 32

-- the digit 0, from which the others follow in order
abbrev pub digit_zero : ℕ
digit_zero = 48

-- the digit 1
abbrev pub digit_one : ℕ
digit_one = 49

-- what a combination prints in a shift: the line feed a newline, the space combination a space,
-- else the character of its row in the column of the shift, where one character stands there
unfoldable pub character_of : ℕ → Shift → Option ℕ
character_of number shift =
    if number == line_feed then Some newline
    else (if number == space_combination then Some space
    else option_and_then (λ row. character_of_cell (cell shift row)) (row_of number))

-- the asterisk, which a lost position prints
abbrev pub asterisk : ℕ
asterisk = 42

-- the byte that a position prints in a shift, if any
abbrev pub byte_of : Reception → Shift → Option ℕ
byte_of (combination number) shift = character_of number shift
byte_of idle shift = None
byte_of lost shift = Some asterisk

-- the shift that a position sets, if it is one of the two shifts
abbrev pub shift_set : Reception → Option Shift
shift_set (combination number) =
    if number == letter_shift then Some Letters
    else (if number == figure_shift then Some Figures else None)
shift_set position = None

-- the shift in force after a position
abbrev pub shift_after : Reception → Shift → Shift
shift_after position shift = unwrap_or (shift_set position) shift

-- the bytes that positions print, in order, from a first shift
abbrev pub text : List Reception → Shift → List ℕ
text [] shift = []
text (position ∷ positions) shift =
    option_to_list (byte_of position shift) ++ text positions (shift_after position shift)

-- the shift in force after positions, from a first shift
abbrev pub shift_after_all : List Reception → Shift → Shift
shift_after_all positions shift = fold (λ now position. shift_after position now) shift positions

-- no position sets a shift
abbrev pub SetsNone : List Reception → Type 0
SetsNone [] = Unit {0}
SetsNone (position ∷ positions) = (shift_set position ≡ None) × SetsNone positions

-- the last of the positions that sets a shift sets this one
pub record IsLastSet (positions : List Reception) (shift : Shift) : Type 0 where
  pub front : List Reception
  pub position : Reception
  pub back : List Reception
  pub parts : positions ≡ front ++ position ∷ back
  pub sets : shift_set position ≡ Some shift
  pub none_later : SetsNone back

-- the shift of the nearest position before the end that sets one, and the first shift where there
-- is none
abbrev pub IsShiftAfter : List Reception → Shift → Shift → Type 0
IsShiftAfter positions first shift =
    IsLastSet positions shift ⊎ (SetsNone positions × (shift ≡ first))

-- the characters that a text may have: A to Z, 0 to 9, space, eleven marks, and newline
unfoldable pub characters : List ℕ
characters = codes "ABCDEFGHIJKLMNOPQRSTUVWXYZ0123456789 -?:().,'=+/" ++ newline ∷ []

-- whether a byte is one of them
unfoldable pub is_in_code : ℕ → Bool
is_in_code byte = list_any (λ character. character == byte) characters

-- the first and the last of the capitals, A to Z
abbrev pub capital_a : ℕ
capital_a = 65

abbrev pub capital_z : ℕ
capital_z = 90

-- how many they are
abbrev pub capitals : ℕ
capitals = 26

-- one of the capitals
abbrev pub IsCapital : ℕ → Type 0
IsCapital byte = (capital_a ≤ byte) × (byte ≤ capital_z)

-- whether a character of this case stands in a shift
abbrev pub holds_in : Case → Shift → Bool
holds_in cases.Letters Letters = true
holds_in cases.Letters Figures = false
holds_in cases.Figures Letters = false
holds_in cases.Figures Figures = true
holds_in cases.Either shift = true
