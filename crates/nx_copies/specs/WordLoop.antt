-- Elements that a synchroniser hears, and a taker of what they bring: for the loop over them,
-- whoever the taker is (this profile).
use Rattle.std.specs.Prelude.{ℕ, ◌<◌, ◌≤◌, Bool, List, Option}
use Rattle.nx_code.specs.Packed.{packed_part}
use Rattle.nx_sync.specs.Synchroniser.{Held}

-- Of so many packed elements from a place on, the first ones were heard, and at least one where
-- there are any. `heard` says how many that were, and what is over for the taker with the last of
-- them. What it is for a taker to hear elements, `hearing` says.
pub record HearsPart {T O : Type 0} (hearing : Held → T → List Bool → Held → T → Option O → Type 0)
    (old : Held) (before : T) (numbers : List ℕ) (from count : ℕ) (new : Held) (after : T)
    (heard : ℕ × Option O) : Type 0 where
  pub within : heard.0 ≤ count
  pub some : 0 < count → 0 < heard.0
  pub hears : hearing old before (packed_part numbers from heard.0) new after heard.1
