-- What only private contracts and proofs cite, beside Saving (this profile).
use Rattle.std.specs.Prelude.{◌≡◌, ◌≢◌, ◌⊎◌, ℕ, ◌<◌, List, [], ◌∷◌}
use Rattle.std.specs.Prelude.{◌++◌, length, Result, Ok, Err, codes, take}
use Rattle.nx_code.specs.Reading.{newline}
use Rattle.nx_memory.specs.Saved.{SavedStates}
use Rattle.nx_memory.specs.StateText.{BeginsNoText, BeginsText, IsShortLine, IsStateText}
use Rattle.nx_memory.specs.StateText.{longest_saved_line}
use Rattle.nx_receiver.specs.air_file_runs.State.{ended_lines}
use Rattle.nx_handle.specs.declared.status.Status.{Status}
use Rattle.nx_handle.specs.declared.status.Status.TheVariants as status
use Rattle.nx_handle.specs.Saving.{HasNoMore}

-- So many bytes has the first line of these, without its line feed. Or they begin with no line of a
-- state, and the status says why: it has a 17th byte, or no line feed.
abbrev pub IsFirstLine : List ℕ → Result ℕ Status → Type 0
IsFirstLine bytes (Ok count) =
    (count < length bytes) × IsShortLine (take count bytes)
    × ((more : List ℕ) × (bytes ≡ (take count bytes ++ newline ∷ []) ++ more))
IsFirstLine bytes (Err why) =
    ((why ≡ status.StateLine) × ((line : List ℕ) × (byte : ℕ) × (more : List ℕ)
    × IsShortLine line × (length line ≡ longest_saved_line) × (byte ≢ newline)
    × (bytes ≡ line ++ byte ∷ more)))
    ⊎ ((why ≡ status.StateCut) × IsShortLine bytes)

-- The bytes are these lines, with which a text of a state begins, this line, and what follows; and
-- no text goes on with the line, unless it is the last one of all texts.
pub record StandsNext (lines : List (List ℕ)) (line bytes : List ℕ) : Type 0 where
  pub more : List ℕ
  pub begins : BeginsText lines
  pub short : IsShortLine line
  pub whole : bytes ≡ ended_lines lines ++ ((line ++ newline ∷ []) ++ more)
  pub refused : line ≢ codes "END" → BeginsNoText (lines ++ line ∷ [])

-- The line can't be the last one of a state behind these lines; or it is, and the state has more
-- than so many channels. The status says which.
abbrev pub RefusesEnd : ℕ → List (List ℕ) → List ℕ → Status → Type 0
RefusesEnd count lines last why =
    ((last ≡ codes "END" → BeginsNoText (lines ++ last ∷ [])) × (why ≡ status.StateLine))
    ⊎ (((states : SavedStates) × IsStateText (lines ++ last ∷ []) states
    × (HasNoMore count states → ⊥)) × (why ≡ status.NoChannel))
