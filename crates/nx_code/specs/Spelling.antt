-- How a text is spelled in combinations (ITU-R M.476, M.625 and M.540; that a shift is sent only
-- where it is needed, and carriage return only before a line feed, is this profile's).
use Rattle.std.specs.Prelude.{◌≡◌, ◌≢◌, ◌≤◌, ◌↔◌, ℕ, List, [], ◌∷◌, None, Some, map, slice_get, IsSome, MatchOption}
use Rattle.nx_code.specs.declared.shifts.Shift.{Shift}
use Rattle.nx_code.specs.Table.{line_feed, combination_count}
use Rattle.nx_code.specs.Table as combinations
use Rattle.nx_code.specs.Reading.{combination, character_of, shift_set, shift_after, text}
use Rattle.nx_code.specs.declared.shifts.Shift.TheVariants.{Figures, Letters}

-- the shift that is not this one
abbrev pub other : Shift → Shift
other Letters = Figures
other Figures = Letters

-- a combination that prints in this shift a character that it does not print in the other
abbrev pub IsOnlyIn : Shift → ℕ → Type 0
IsOnlyIn shift number =
    IsSome (character_of number shift)
    × (character_of number Letters ≢ character_of number Figures)

-- a combination that in this shift prints nothing, sets no shift and is no carriage return (which
-- these are, says the law `silent_combinations`)
pub record IsSilent (shift : Shift) (number : ℕ) : Type 0 where
  pub prints_nothing : character_of number shift ≡ None
  pub sets_no_shift : shift_set (combination number) ≡ None
  pub no_return : number ≢ combinations.carriage_return

-- A combination fits where it stands: this shift is in force before it, and these follow it.
pub record Fits (shift : Shift) (number : ℕ) (rest : List ℕ) : Type 0 where
  pub from_one : 1 ≤ number
  pub to_thirty_two : number ≤ combination_count
  -- it prints, or sets a shift, or is a carriage return
  pub not_silent : ¬ IsSilent shift number
  -- a carriage return stands directly before each line feed, and nowhere else
  pub carriage_return : (number ≡ combinations.carriage_return)
      ↔ (slice_get rest 0 ≡ Some line_feed)
  -- a shift is not the one in force, and stands directly before a character that has only that
  -- shift
  pub needed : (s : Shift) → shift_set (combination number) ≡ Some s
      → (s ≢ shift) × MatchOption (slice_get rest 0) ⊥ (IsOnlyIn s)

-- each combination fits where it stands
abbrev pub EachFits : Shift → List ℕ → Type 0
EachFits shift [] = Unit {0}
EachFits shift (number ∷ numbers) =
    Fits shift number numbers × EachFits (shift_after (combination number) shift) numbers

-- the combinations spell the text from a shift
pub record Spells (bytes : List ℕ) (shift : Shift) (numbers : List ℕ) : Type 0 where
  pub reads : text (map combination numbers) shift ≡ bytes
  -- no line feed comes before the first carriage return
  pub begins : slice_get numbers 0 ≢ Some line_feed
  pub fits : EachFits shift numbers
