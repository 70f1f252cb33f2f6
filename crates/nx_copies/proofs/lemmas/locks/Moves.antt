-- What one more element does to what stands: five cases, each with the step that it brings.
use Rattle.std.proofs.Common.{◌≡◌, ℕ, ◌+◌, ◌*◌, Bool, List, [], ◌∷◌, ◌++◌, length, Some, None, arith}
use Rattle.std.proofs.lemmas.List.{length_push}
use Rattle.nx_sync.specs.Laws.{OneMore, still_hunts, now_finds, still_stands, now_over}
use Rattle.nx_sync.specs.Locks.{Lock, Now, hunting, locked, IsNow, Past}
use Rattle.nx_sync.specs.Steps.{Brings, found, word, inside, over, hunts, IsStep, step}
use Rattle.nx_sync.specs.Words.{heard_word, whole_words}
use Rattle.nx_sync.specs.declared.step.Change.TheVariants.{Locked}
use Rattle.nx_sync.specs.declared.step.Step.{Step}
use Rattle.nx_sync.proofs.lemmas.states.KeptPast.{Past-within}
use Rattle.nx_sync.proofs.lemmas.states.StateChanges.{one_more}

-- With the last of these elements hunting goes on, or a lock is found; or a word of the lock that
-- stands goes on, or ends, or releases the lock. `before` are the elements before the last one.
pub data Moves (before bits : List Bool) (r : Step) : List Lock → Now → List Lock → Now → Type 0
  where
    hunts_on : {locks : List Lock} {p : ℕ} → r ≡ step None None
        → Moves before bits r locks (hunting p) locks (hunting p)
    finds : {locks : List Lock} {p t : ℕ} → length bits ≡ t → r ≡ step None (Some Locked)
        → Moves before bits r locks (hunting p) locks (locked p t)
    goes_on : {locks : List Lock} {p t : ℕ} → whole_words bits t ≡ whole_words before t
        → r ≡ step None None → Moves before bits r locks (locked p t) locks (locked p t)
    ends_word : {locks : List Lock} {p t : ℕ} (k : ℕ) → length bits ≡ t + 7 * (k + 1)
        → r ≡ step (Some (heard_word bits t k)) None
        → Moves before bits r locks (locked p t) locks (locked p t)
    releases : {older : List Lock} {p t q : ℕ} (lock : Lock) → lock.at ≡ t → length bits ≡ q
        → r ≡ step (Some (heard_word bits lock.at lock.last)) (Some lock.how)
        → Moves before bits r older (locked p t) (lock ∷ older) (hunting q)

moves_by : (bits : List Bool) (b : Bool) (r : Step) (locks : List Lock) (now : Now)
    → IsNow bits locks now → (newer : List Lock) (next : Now) → Brings (bits ++ b ∷ []) r newer next
    → OneMore (bits ++ b ∷ []) locks now newer next
    → Moves bits (bits ++ b ∷ []) r locks now newer next
unfolding Past
moves_by bits b r locks (hunting p) is newer (hunting q) (hunts h f) still_hunts = hunts_on f
moves_by bits b r locks (hunting p) is newer (hunting q) (over e f) still_hunts =
    absurd (omega (arith, e, length_push bits b, Past-within bits locks p is.past))
moves_by bits b r locks (hunting p) is newer (locked q t) (found e f) (now_finds g) = finds g f
moves_by bits b r locks (hunting p) is newer (locked q t) (word k e f) (now_finds g) =
    absurd (omega (arith, e, g))
moves_by bits b r locks (hunting p) is newer (locked q t) (inside k i e pos lt f) (now_finds g) =
    absurd (omega (arith, e, g, pos))
moves_by bits b r locks (locked p t) is newer (locked q u) (found e f) still_stands =
    absurd (omega (arith, e, length_push bits b, is.found.here.heard))
moves_by bits b r locks (locked p t) is newer (locked q u) (word k e f) still_stands =
    ends_word k e f
moves_by bits b r locks (locked p t) is newer (locked q u) (inside k i e pos lt f) still_stands =
    goes_on (omega (arith, e, length_push bits b, pos, lt)) f
moves_by bits b r locks (locked p t) is newer (hunting q) (over e f) (now_over lock x y z) =
    releases lock y z f
moves_by bits b r locks (locked p t) is newer (hunting q) (hunts h f) (now_over lock x y z) =
    absurd (omega (arith, h, z))

-- an element that brings a step
pub one_move : (bits : List Bool) (b : Bool) (r : Step) (locks : List Lock) (now : Now)
    → IsNow bits locks now → (is : IsStep (bits ++ b ∷ []) r)
    → Moves bits (bits ++ b ∷ []) r locks now is.locks is.now
one_move bits b r locks now stands is =
    moves_by bits b r locks now stands is.locks is.now is.brings
    (one_more bits b locks is.locks now is.now stands is.stands)
