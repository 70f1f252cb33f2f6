-- The text of a state (this profile), by its lines, each without the line feed that ends it.
use Rattle.std.specs.Prelude.{◌≡◌, ◌≢◌, ◌⊎◌, ℕ, ◌≤◌, List, [], ◌∷◌, ◌++◌, codes, length, map}
use Rattle.std.specs.Fmt.{decimal}
use Rattle.std.specs.List.{AllByRecursion, filter, range_with_len}
use Rattle.std.specs.Ordering.{nat_cmp}
use Rattle.std.specs.FinSet as set
use Rattle.nx_code.specs.Reading.{capital_a, capitals, newline}
use Rattle.nx_envelope.specs.Identity.{identity_bytes}
use Rattle.nx_memory.specs.Saved.{SavedState, SavedStates, IsSavedState, AreSavedStates, on_channel_0}
use Rattle.nx_memory.specs.declared.state.saved_line.SavedLine.{SavedLine}
use Rattle.nx_memory.specs.declared.state.saved_line.SavedLine.TheVariants.{Station, Subject, Entry}
use Rattle.nx_memory.specs.declared.state.state_reader.StateStep.{StateStep}
use Rattle.nx_memory.specs.declared.state.state_reader.StateStep.TheVariants.{More, Done, Bad}

-- a line that stands behind the head of a channel: `RS` and a refused station, `RJ` and a refused
-- subject, or the identity of an entry, a space and its moment
abbrev pub spelling : SavedLine → List ℕ
spelling (Station letter) = codes "RS " ++ letter ∷ []
spelling (Subject letter) = codes "RJ " ++ letter ∷ []
spelling (Entry entry) = identity_bytes entry.identity ++ (codes " " ++ decimal entry.moment)

-- the letters of a set in rising order, from A to Z
unfoldable pub rising : set.FinSet nat_cmp → List ℕ
rising letters = filter (set.contains letters) (range_with_len capital_a capitals)

-- what is said of a channel: its refused stations, its refused subjects, its entries, oldest first
abbrev pub said : SavedState → List SavedLine
said saved =
    map Station (rising saved.refused.stations)
    ++ (map Subject (rising saved.refused.subjects) ++ map Entry saved.entries)

-- the lines of a channel
abbrev pub section : SavedState → List (List ℕ)
section saved = map spelling (said saved)

-- the line that ends each text
abbrev pub last_line : List (List ℕ)
last_line = codes "END" ∷ []

-- the text of version 1, which has one channel
abbrev pub text_1 : SavedState → List (List ℕ)
text_1 saved = codes "STATE 1" ∷ (section saved ++ last_line)

-- the text of version 2
abbrev pub text_2 : SavedStates → List (List ℕ)
text_2 states =
    codes "STATE 2"
    ∷ codes "C0" ∷ (section states.on_0
    ++ codes "C1" ∷ (section states.on_1
    ++ codes "C2" ∷ (section states.on_2 ++ last_line)))

-- the lines are a text of version 1, which stands for channel 0, with the others new
pub record IsText1 (lines : List (List ℕ)) (states : SavedStates) : Type 0 where
  pub saved : SavedState
  pub sound : IsSavedState saved
  pub spelled : lines ≡ text_1 saved
  pub stands_for : states ≡ on_channel_0 saved

-- the lines are a text of version 2
pub record IsText2 (lines : List (List ℕ)) (states : SavedStates) : Type 0 where
  pub sound : AreSavedStates states
  pub spelled : lines ≡ text_2 states

-- the lines are a text of a state, and stand for what is saved of the three channels
abbrev pub IsStateText : List (List ℕ) → SavedStates → Type 0
IsStateText lines states = IsText1 lines states ⊎ IsText2 lines states

-- a text of a state begins with the lines, and goes on
pub record BeginsText (lines : List (List ℕ)) : Type 0 where
  pub next : List ℕ
  pub more : List (List ℕ)
  pub states : SavedStates
  pub is : IsStateText (lines ++ next ∷ more) states

-- no text of a state begins with the lines, nor is it these lines
abbrev pub BeginsNoText : List (List ℕ) → Type 0
BeginsNoText lines =
    (more : List (List ℕ)) (states : SavedStates) → ¬ IsStateText (lines ++ more) states

-- the most bytes of a line
abbrev pub longest_saved_line : ℕ
longest_saved_line = 16

-- a line of at most 16 bytes, none of which is a newline
pub record IsShortLine (line : List ℕ) : Type 0 where
  pub short : length line ≤ longest_saved_line
  pub one_line : AllByRecursion (λ byte. byte ≢ newline) line

-- where a line was taken and more lines have to come, this holds
abbrev pub OnMore : StateStep → Type 0 → Type 0
OnMore More P = P
OnMore (Done states) P = Unit {0}
OnMore Bad P = Unit {0}

-- where a line was the last, this holds of what the text stands for
abbrev pub IfDone : StateStep → (SavedStates → Type 0) → Type 0
IfDone More P = Unit {0}
IfDone (Done states) P = P states
IfDone Bad P = Unit {0}

-- where a line was refused, this holds
abbrev pub OnBad : StateStep → Type 0 → Type 0
OnBad More P = Unit {0}
OnBad (Done states) P = Unit {0}
OnBad Bad P = P
