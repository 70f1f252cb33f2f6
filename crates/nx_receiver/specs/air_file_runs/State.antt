-- The text of a state by its bytes, and what reading it answers (this profile).
use Rattle.std.specs.Prelude.{◌≡◌, ◌≢◌, ◌⊎◌, ℕ, ◌+◌, List, [], ◌∷◌, ◌++◌, length, Option, Result}
use Rattle.std.specs.Prelude.{Ok, Err, ⊤}
use Rattle.std.specs.List.{flat_map}
use Rattle.nx_code.specs.Reading.{newline}
use Rattle.nx_fec.specs.Transfers.{CountedDevice, Extent, Reads, input}
use Rattle.nx_memory.specs.Saved.{SavedStates}
use Rattle.nx_memory.specs.StateText.{BeginsNoText, BeginsText, IsShortLine, IsStateText, text_2, longest_saved_line}
use Rattle.nx_receiver.specs.declared.air_file_runs.state_fault.StateFault.{StateFault}
use Rattle.nx_receiver.specs.declared.air_file_runs.state_fault.StateFault.TheVariants.{Read, StateLine, StateCut}

-- the bytes of lines, each with the line feed that ends it
abbrev pub ended_lines : List (List ℕ) → List ℕ
ended_lines lines = flat_map (λ line. line ++ newline ∷ []) lines

-- State text, by its bytes: they are the lines of a text of a state, of version 1 or 2, each with
-- its line feed, and stand for what is saved of the three channels
pub record IsStateBytes (bytes : List ℕ) (states : SavedStates) : Type 0 where
  pub lines : List (List ℕ)
  pub text : IsStateText lines states
  pub spelled : bytes ≡ ended_lines lines

-- the bytes that are written of a state: its text of version 2
unfoldable pub state_bytes : SavedStates → List ℕ
state_bytes states = ended_lines (text_2 states)

-- the input is a text of a state, and what follows it, of which this holds
pub record BeginsWith (input : List ℕ) (holds : SavedStates → List ℕ → Type 0) : Type 0 where
  pub text : List ℕ
  pub more : List ℕ
  pub states : SavedStates
  pub whole : input ≡ text ++ more
  pub stands_for : IsStateBytes text states
  pub here : holds states more

-- the input begins with a text of a state, which stands for this
abbrev pub BeginsWithState : List ℕ → SavedStates → Type 0
BeginsWithState input states = BeginsWith input (λ others more. states ≡ others)

-- The input is lines with which a text of a state begins, the beginning of one more line, of at
-- most 16 bytes, and what follows. So whatever stands there comes before any fault in what follows.
pub record StopsInText (input : List ℕ) (holds : List (List ℕ) → List ℕ → List ℕ → Type 0)
    : Type 0 where
  pub lines : List (List ℕ)
  pub rest : List ℕ
  pub more : List ℕ
  pub whole : input ≡ (ended_lines lines ++ rest) ++ more
  pub begins : BeginsText lines
  pub part : IsShortLine rest
  pub here : holds lines rest more

-- After the lines and the beginning of one more comes a byte that is no part of any text of a
-- state. It is the line feed of a line with which none goes on, or the 17th byte of a line.
-- What follows is left.
abbrev pub IsNotUnderstood : Extent → List (List ℕ) → List ℕ → List ℕ → Type 0
IsNotUnderstood extent lines rest [] = ⊥
IsNotUnderstood extent lines rest (byte ∷ more) =
    extent.is_left more × (((byte ≡ newline) × BeginsNoText (lines ++ rest ∷ []))
    ⊎ ((byte ≢ newline) × (length rest ≡ longest_saved_line)))

-- What a fault of reading a state says of bytes of this extent of the input: its line, from 1, is
-- the one in which the fault stands. What follows the byte that shows it, or a failed read, is
-- left. `StateCut` comes only where the bytes are all, and nothing stands behind the beginning of
-- that line.
abbrev pub ExplainsState : Extent → List ℕ → StateFault → Type 0
ExplainsState extent input Read = StopsInText input (λ lines rest more. extent.is_left more)
ExplainsState extent input (StateLine line) =
    StopsInText input (λ lines rest more. (line ≡ length lines + 1)
    × IsNotUnderstood extent lines rest more)
ExplainsState extent input (StateCut line) =
    extent.at_end × StopsInText input (λ lines rest more. (line ≡ length lines + 1) × (more ≡ []))

-- What reading a state answers to bytes of this extent of the input. It is what the text stands for
-- with which the input begins, and what follows it is left; or a fault.
abbrev pub AnswersState : Extent → List ℕ → Result SavedStates StateFault → Type 0
AnswersState extent input (Ok states) =
    BeginsWith input (λ others more. (states ≡ others) × extent.is_left more)
AnswersState extent input (Err fault) = ExplainsState extent input fault

-- A run that reads a state: it answers so to the bytes that it read, behind which it read no more;
-- and to the whole input, however it came.
abbrev pub ReadsState : {R : Type 0} → (R → Option (List ℕ)) → CountedDevice R → CountedDevice R
    → Result SavedStates StateFault → Type 0
ReadsState remaining old new outcome =
    Reads (input remaining old new) Read (λ fault bytes. ⊤) outcome
    (λ extent bytes. AnswersState extent bytes outcome)
