-- Which copies a hearer of copies and of their positions has heard, each with its positions, and
-- after which elements (this profile).
use Rattle.std.specs.Prelude.{◌≡◌, ℕ, ◌+◌, ◌≤◌, Bool, List, [], ◌∷◌, ◌++◌, length, map, take}
use Rattle.std.specs.Prelude.{Option, Some, None}
use Rattle.std.specs.List.{All}
use Rattle.nx_envelope.specs.Copies.{ended_copies}
use Rattle.nx_sync.specs.Locks.{IsNow, Lock, Now}
use Rattle.nx_sync.specs.Synchroniser.{Held}
use Rattle.nx_copies.specs.Events.{Setting}
use Rattle.nx_copies.specs.copies.FoundCopies.{TaggedCopy, tag}
use Rattle.nx_copies.specs.declared.copy_taker.Over.{Over}
use Rattle.nx_copies.specs.declared.copy_taker.Over.TheVariants as over
use Rattle.nx_copies.specs.hearing.CopyHearer.{HearerStands, LockIsOver, all_in_force, ready_copies}
use Rattle.nx_copies.specs.hearing.CopyHearer.{setting_in}
use Rattle.nx_copies.specs.hearing.CopyTaker.{hearer_of}
use Rattle.nx_combine.specs.CombinedTaker.{LockTaken, TakerStands}
use Rattle.nx_combine.specs.CopyPositions.{HeardCopy, PlacedCopy, ended_placed, lock_bytes, past_placed}
use Rattle.nx_combine.specs.CopyPositions.{placed, placed_to_end, positions_in_past}
use Rattle.nx_combine.specs.Notes.{noted}
use Rattle.nx_combine.specs.declared.taker.CombinedTaker.{CombinedTaker}

-- copies with what is in force at the second digit of each, by what is in force at each element
unfoldable pub heard_by : Setting → List Setting → List PlacedCopy → List HeardCopy
heard_by first settings copies =
    map (λ placed. record {
      copy = tag (setting_in first settings placed.found.place) placed.found;
      positions = placed.positions;
    }) copies

-- the copies that were heard, without their positions
abbrev pub copies_of : List HeardCopy → List TaggedCopy
copies_of heard = map (λ one. one.copy) heard

-- After these elements, with what is in force at each, these copies have ended, in order.
pub record HaveBeenHeard (first : Setting) (bits : List Bool) (settings : List Setting)
    (copies : List HeardCopy) : Type 0 where
  pub locks : List Lock
  pub now : Now
  pub stands : IsNow bits locks now
  pub heard : copies ≡ heard_by first settings (ended_placed bits locks now)

-- The synchroniser and the taker stand after these elements, with what is in force at each: these
-- copies have ended.
pub record CombinedStands (first : Setting) (held : Held) (taker : CombinedTaker)
    (bits : List Bool) (settings : List Setting) (copies : List HeardCopy) : Type 0 where
  pub hearer : HearerStands first (hearer_of held taker.copies) bits settings (copies_of copies)
  pub takes : TakerStands held taker bits
  pub heard : HaveBeenHeard first bits settings copies

-- the taker has this copy, which can be taken, and has noted its positions
pub record HasHeard (held : Held) (taker : CombinedTaker) (heard : HeardCopy) : Type 0 where
  pub ready : ready_copies (hearer_of held taker.copies) ≡ heard.copy ∷ []
  pub positions : taker.notes.positions ≡ noted heard.positions

-- a copy has ended, which can be taken, and the taker stands after the elements with it
pub record CopyHeard (first : Setting) (held : Held) (taker : CombinedTaker) (bits : List Bool)
    (settings : List Setting) (copies : List HeardCopy) : Type 0 where
  pub copy : HeardCopy
  pub has : HasHeard held taker copy
  pub stands : CombinedStands first held taker bits settings (copies ++ copy ∷ [])

-- The last of these elements released a lock. The words of its text were read, but its end wasn't:
-- these copies ended before it.
pub record LockHeard (first : Setting) (held : Held) (taker : CombinedTaker) (bits : List Bool)
    (settings : List Setting) (copies : List HeardCopy) : Type 0 where
  pub hearer : LockIsOver first (hearer_of held taker.copies) bits settings (copies_of copies)
  pub takes : LockTaken held taker bits
  pub heard : copies ≡ heard_by first settings (past_placed bits takes.older
      ++ placed (positions_in_past takes.lock.how) bits takes.lock.at (takes.lock.last + 1)
      (ended_copies (lock_bytes bits takes.lock.at (takes.lock.last + 1))))

-- a copy has ended, which can be taken, and the same element released the lock
pub record BothHeard (first : Setting) (held : Held) (taker : CombinedTaker) (bits : List Bool)
    (settings : List Setting) (copies : List HeardCopy) : Type 0 where
  pub copy : HeardCopy
  pub has : HasHeard held taker copy
  pub lock : LockHeard first held taker bits settings (copies ++ copy ∷ [])

-- what is over with the last of these elements, before which these copies had ended
abbrev pub CombinedOver : Setting → Held → CombinedTaker → List Bool → List Setting
    → List HeardCopy → Option Over → Type 0
CombinedOver first held taker bits settings copies None =
    CombinedStands first held taker bits settings copies
CombinedOver first held taker bits settings copies (Some over.Copy) =
    CopyHeard first held taker bits settings copies
CombinedOver first held taker bits settings copies (Some over.Lock) =
    LockHeard first held taker bits settings copies
CombinedOver first held taker bits settings copies (Some over.CopyAndLock) =
    BothHeard first held taker bits settings copies

-- A synchroniser and a taker heard these elements after others, with which these copies had ended,
-- and this is over with the last of them; with none before it any copy ended.
pub record HearsMore (first : Setting) (old : Held) (before : CombinedTaker) (bits : List Bool)
    (settings : List Setting) (copies : List HeardCopy) (heard : List Bool) (new : Held)
    (after : CombinedTaker) (answer : Option Over) : Type 0 where
  pub brings : CombinedOver first new after (bits ++ heard)
      (settings ++ all_in_force (hearer_of old before.copies) heard) copies answer
  pub none_before : (k : ℕ) → k + 1 ≤ length heard → HaveBeenHeard first (bits ++ take k heard)
      (settings ++ all_in_force (hearer_of old before.copies) (take k heard)) copies

-- Whatever a synchroniser and a taker heard before, they hear these elements after that, and this
-- is over with the last of them.
abbrev pub HearsHeard : Held → CombinedTaker → List Bool → Held → CombinedTaker → Option Over
    → Type 0
HearsHeard old before heard new after answer =
    (first : Setting) (bits : List Bool) (settings : List Setting) (copies : List HeardCopy)
    → CombinedStands first old before bits settings copies
    → HearsMore first old before bits settings copies heard new after answer

-- After these elements, and where they end, these copies have ended, in order.
pub record HaveAllBeenHeard (first : Setting) (bits : List Bool) (settings : List Setting)
    (copies : List HeardCopy) : Type 0 where
  pub locks : List Lock
  pub now : Now
  pub stands : IsNow bits locks now
  pub heard : copies ≡ heard_by first settings (placed_to_end bits locks now)

-- All elements ended: the copy that the taker then has, if it has one, is the last of all, and its
-- positions were noted.
pub record AllHeard (first : Setting) (held : Held) (taker : CombinedTaker) (bits : List Bool)
    (settings : List Setting) (copies : List HeardCopy) : Type 0 where
  pub last : List HeardCopy
  pub ready : ready_copies (hearer_of held taker.copies) ≡ copies_of last
  pub positions : All (λ one. taker.notes.positions ≡ noted one.positions) last
  pub all : HaveAllBeenHeard first bits settings (copies ++ last)
