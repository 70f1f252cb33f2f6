-- What the parts of reading the text of a state give: one byte, and one line.
use Rattle.std.specs.Prelude.{◌≡◌, ◌≢◌, ℕ, List, [], ◌∷◌, ◌++◌, length, Option}
use Rattle.std.specs.Io.KnownBytes.{Consumes, IsAtEnd}
use Rattle.nx_code.specs.Reading.{newline}
use Rattle.nx_fec.specs.Transfers.{CountedDevice}
use Rattle.nx_memory.specs.StateText.{IsShortLine}
use Rattle.nx_receiver.specs.declared.air_file_runs.state.LineRead.{LineRead}
use Rattle.nx_receiver.specs.declared.air_file_runs.state.LineRead.TheVariants.{Whole, Long, Cut, Failed}
use Rattle.nx_receiver.specs.declared.air_file_runs.state.NextByte.{NextByte}
use Rattle.nx_receiver.specs.declared.air_file_runs.state.NextByte.TheVariants as next

-- what reading one byte gave
abbrev pub IsNextByte : {R : Type 0} → (R → Option (List ℕ)) → CountedDevice R → CountedDevice R
    → NextByte → Type 0
IsNextByte remaining old new (next.Byte byte) =
    Consumes (remaining old.inner) (remaining new.inner) (byte ∷ []) × (new.failures ≡ 0)
IsNextByte remaining old new next.End =
    Consumes (remaining old.inner) (remaining new.inner) [] × IsAtEnd (remaining new.inner)
    × (new.failures ≡ 0)
IsNextByte remaining old new next.Failed =
    Consumes (remaining old.inner) (remaining new.inner) [] × (new.failures ≡ 1)

-- the beginning of a line was read, and then this
pub record HasReadPart {R : Type 0} (remaining : R → Option (List ℕ)) (old new : CountedDevice R)
    (holds : List ℕ → List ℕ → Type 0) : Type 0 where
  pub line : List ℕ
  pub more : List ℕ
  pub part : IsShortLine line
  pub consumed : Consumes (remaining old.inner) (remaining new.inner) (line ++ more)
  pub here : holds line more

-- What reading a line gave: a line, which was read with its line feed; the 17th byte of one; its
-- beginning, at the end of the input; or its beginning, before a read failed.
abbrev pub IsNextLine : {R : Type 0} → (R → Option (List ℕ)) → CountedDevice R → CountedDevice R
    → LineRead → Type 0
IsNextLine remaining old new (Whole bytes) =
    IsShortLine bytes.items
    × Consumes (remaining old.inner) (remaining new.inner) (bytes.items ++ newline ∷ [])
    × (new.failures ≡ 0)
IsNextLine remaining old new Long =
    HasReadPart remaining old new (λ line more. (byte : ℕ) × (more ≡ byte ∷ [])
    × (byte ≢ newline) × (length line ≡ 16) × (new.failures ≡ 0))
IsNextLine remaining old new Cut =
    HasReadPart remaining old new (λ line more. (more ≡ []) × IsAtEnd (remaining new.inner)
    × (new.failures ≡ 0))
IsNextLine remaining old new Failed =
    HasReadPart remaining old new (λ line more. (more ≡ []) × (new.failures ≡ 1))
