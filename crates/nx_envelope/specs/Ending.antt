-- Where a copy ends (the markers are those of ITU-R M.540; 4,100 is this profile's), said by
-- places: the raw text of a copy begins at place 0.
use Rattle.std.specs.Prelude.{◌≡◌, ℕ, ◌-◌, ◌<◌, ◌≤◌, ◌⊎◌, List, length, take}
use Rattle.nx_envelope.specs.Copies.{Ending, most_found, marker_length}
use Rattle.nx_envelope.specs.Header.{EndsWithMarker}
use Rattle.nx_envelope.specs.declared.found.How.{How}
use Rattle.nx_envelope.specs.declared.found.How.TheVariants.{Long}

-- that marker ends at the place, and so begins at place 0 or later
abbrev pub MarkerEndsAt : List ℕ → ℕ → How → Type 0
MarkerEndsAt raw place how = EndsWithMarker (take place raw) how

-- a marker ends at the place, at none before it, and within 4,100 characters: what stands before it
-- is the found text
pub record EndsAtMarker (raw : List ℕ) (ending : Ending) : Type 0 where
  pub place : ℕ
  pub within : place ≤ length raw
  pub in_reach : place ≤ most_found
  pub marker : MarkerEndsAt raw place ending.how
  pub least : (earlier : ℕ) (how : How) → earlier < place → ¬ MarkerEndsAt raw earlier how
  pub text : ending.text ≡ take (place - marker_length) raw

-- no marker ends within 4,100 characters
abbrev pub HasNoMarker : List ℕ → Type 0
HasNoMarker raw =
    (place : ℕ) (how : How) → place ≤ length raw → place ≤ most_found → ¬ MarkerEndsAt raw place how

-- there is none, and 4,100 characters stand there: they are the found text
pub record EndsLong (raw : List ℕ) (ending : Ending) : Type 0 where
  pub how : ending.how ≡ Long
  pub unmarked : HasNoMarker raw
  pub stand : most_found ≤ length raw
  pub text : ending.text ≡ take most_found raw

-- the copy with that raw text has ended so
abbrev pub IsEnding : List ℕ → Ending → Type 0
IsEnding raw ending = EndsAtMarker raw ending ⊎ EndsLong raw ending

-- it has not ended: there is no marker, and fewer characters stand there
pub record IsUnended (raw : List ℕ) : Type 0 where
  pub unmarked : HasNoMarker raw
  pub short : length raw < most_found
