-- What only private contracts and proofs cite, beside air_files.LineRuns (this profile).
use Rattle.std.specs.Prelude.{◌≡◌, ℕ, List, length}
use Rattle.nx_fec.specs.air_files.AirFile.{Line}
use Rattle.nx_fec.specs.air_files.Lines.{IsAirFile, air_limit}

-- a file was read to its end, and all its lines were taken
pub record HasHeardAll (taken : List Line → Type 0) (bytes : List ℕ) (count : ℕ) : Type 0 where
  pub lines : List Line
  pub file : IsAirFile air_limit bytes lines
  pub here : taken lines
  pub counted : count ≡ length lines

-- Of a taker of lines: that it stood so at first and stands so now, after these lines, for which it
-- gave these bytes.
abbrev pub TakerRelation : Type 0 → Type 1
TakerRelation T = T → T → List Line → List ℕ → Type 0

-- a taker stands so after these lines, and this holds of the bytes that it gave for them
pub record HasTaken {T : Type 0} (stands : TakerRelation T) (first now : T) (lines : List Line)
    (holds : List ℕ → Type 0) : Type 0 where
  pub given : List ℕ
  pub stood : stands first now lines given
  pub here : holds given
