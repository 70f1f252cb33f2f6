-- The lines of any bytes (this profile).
use Rattle.std.specs.Prelude.{◌≡◌, ◌≢◌, ℕ, List, [], ◌∷◌, ◌++◌, Option, Some, None}
use Rattle.std.specs.List.{flat_map, AllByRecursion, AllZip}
use Rattle.nx_code.specs.Reading.{newline}
use Rattle.nx_fec.specs.air_files.AirFile.{IsLine, IsNoLine, Line, spelling}

-- none of the bytes ends a line
abbrev pub HasNoLineEnd : List ℕ → Type 0
HasNoLineEnd bytes = AllByRecursion (λ byte. byte ≢ newline) bytes

-- the bytes of a line with its end
abbrev pub ended : List ℕ → List ℕ
ended text = text ++ newline ∷ []

-- what the bytes of a line say, without its end: a line of an air file, or nothing that is
-- understood, as each text of more than 514 bytes
abbrev pub Says : List ℕ → Option Line → Type 0
Says text (Some line) = IsLine line × (text ≡ spelling line)
Says text None = HasNoLineEnd text × IsNoLine text

-- The bytes are these lines, each with its end, and what stands behind the last end.
pub record AreLines (bytes : List ℕ) (lines : List (Option Line)) (rest : List ℕ) : Type 0 where
  pub texts : List (List ℕ)
  pub whole : bytes ≡ flat_map ended texts ++ rest
  pub each : AllZip Says texts lines
  pub part : HasNoLineEnd rest

-- the line that the end of the bytes cuts, if it cuts one, is not understood
abbrev pub cut_line : List ℕ → List (Option Line)
cut_line [] = []
cut_line (byte ∷ rest) = None ∷ []
