-- A run over the lines of any bytes, of which those that act are taken (this profile).
use Rattle.std.specs.Prelude.{◌≡◌, ◌⊎◌, ℕ, ◌<◌, Bool, true, List, [], ◌∷◌, ◌++◌}
use Rattle.std.specs.Prelude.{length, take, Option, Some}
use Rattle.std.specs.Io.KnownBytes.{Appends}
use Rattle.nx_fec.specs.air_files.AirFile.{Line}
use Rattle.nx_watch.specs.Acting.{goes_on}
use Rattle.nx_watch.specs.AnyLines.{AreLines}
use Rattle.nx_watch.specs.CutTold.{TellsOfSomeCut}
use Rattle.nx_watch.specs.LinesTold.{IsToldAtEnd}
use Rattle.nx_watch.specs.declared.lines.line_effects.StartMoments.{StartMoments}

-- this text was told: it was written, or a first part of it, but not all, where a write failed,
-- after which none was tried
abbrev pub HasTold : Option (List ℕ) → Option (List ℕ) → ℕ → List ℕ → Type 0
HasTold old new failures text =
    ((failures ≡ 0) × Appends old new text)
    ⊎ ((failures ≡ 1) × (taken : ℕ) × (taken < length text) × Appends old new (take taken text))

-- Some bytes were told of that are cut, and then some lines, and a put that failed or none.
abbrev pub TellsOfLines : Option (List ℕ) → Option (List ℕ) → ℕ → Type 0
TellsOfLines old new failures =
    (cut : List ℕ) × TellsOfSomeCut cut × (first : StartMoments) × (bytes : List ℕ)
    × (lines : List (Option Line)) × (failed : Bool) × (text : List ℕ)
    × IsToldAtEnd first bytes lines failed text × HasTold old new failures (cut ++ text)

-- The bytes begin with these lines and this last one, each with its end; none before the last ended
-- the watch.
pub record StopsBehind (first : StartMoments) (bytes : List ℕ) (lines : List (Option Line))
    (last : Line)
    : Type 0 where
  pub front : List ℕ
  pub more : List ℕ
  pub whole : bytes ≡ front ++ more
  pub are : AreLines front (lines ++ Some last ∷ []) []
  pub on : goes_on first lines ≡ true
