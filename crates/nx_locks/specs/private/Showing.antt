-- What a taker of lines holds that shows the locks, and after which elements it stands (this
-- profile).
use Rattle.std.specs.Prelude.{◌≡◌, ℕ, ◌+◌, ◌^◌, ◌<◌, Bool, List, ◌++◌, length}
use Rattle.nx_sync.specs.Synchroniser.{Held, StandsAfter}
use Rattle.nx_locks.specs.Report.{IsReport, now_headers, now_locks, past_headers}
use Rattle.nx_locks.specs.private.Taker.{TakerShows, Taking, all_at}

-- what contracts see of a taker of lines: the synchroniser, the taker of what the elements bring,
-- and whether there was a moment
pub record Showing : Type 0 where
  pub synchroniser : Held
  pub taker : Taking
  pub has_moment : Bool

-- after these bits, with the moment in force at each, these bytes are the report so far
pub record ShowsSoFar (showing : Showing) (bits : List Bool) (moments : List ℕ) (given : List ℕ)
    : Type 0 where
  pub synchroniser : StandsAfter showing.synchroniser bits
  pub taker : TakerShows showing.taker bits moments given

-- After whatever bits it stood, fewer than a counter counts, it shows these elements after them;
-- what it shows of them stands alone.
pub record HearsAll (old new : Showing) (heard : List Bool) : Type 0 where
  pub hears : (bits : List Bool) (moments given : List ℕ) → ShowsSoFar old bits moments given
      → length bits + length heard < 2 ^ 64
      → ShowsSoFar new (bits ++ heard) (moments ++ all_at old.taker.moment heard)
      (given ++ new.taker.shown)
  pub moment : new.taker.moment ≡ old.taker.moment
  pub has_moment : new.has_moment ≡ old.has_moment

-- the bytes are the report of these bits, at whose end this moment is in force, and its counts are
-- these
pub record HasEnded (bits : List Bool) (moments : List ℕ) (ending : ℕ) (bytes : List ℕ)
    (counts : ℕ × ℕ) : Type 0 where
  pub report : IsReport bits moments ending bytes
  pub locks : counts.0 ≡ length report.locks + now_locks report.now
  pub copies : counts.1 ≡ past_headers bits report.locks + now_headers bits report.now

-- the report of whatever bits were shown was ended; what is shown of the end stands alone
abbrev pub EndsShown : Showing → Showing → ℕ × ℕ → Type 0
EndsShown old new counts =
    (bits : List Bool) (moments given : List ℕ) → ShowsSoFar old bits moments given
    → HasEnded bits moments old.taker.moment (given ++ new.taker.shown) counts
