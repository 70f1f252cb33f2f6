-- Of the copies that are found, those at a place of a lock that stood are copies of that lock.
use Rattle.std.proofs.Common.{◌≡◌, ℕ, ◌+◌, ◌*◌, ◌<◌, ◌≤◌, ◌⊎◌, Bool, List, [], ◌∷◌, ◌++◌}
use Rattle.std.proofs.Common.{length, refl, subst, arith, inl, inr}
use Rattle.std.specs.List.{All, Contains}
use Rattle.std.proofs.lemmas.Bool.{cases_lt}
use Rattle.std.proofs.lemmas.List.{length-append}
use Rattle.std.proofs.lemmas.List.Elements.{All-append, All-contains, All-contains_itself, All-map}
use Rattle.std.proofs.lemmas.List.Elements.{Contains-append_cases, Contains-append_left}
use Rattle.std.proofs.lemmas.List.Elements.{Contains-append_right}
use Rattle.std.proofs.Common.{ap, unwrap_or}
use Rattle.std.proofs.lemmas.List.Elements.{All-nil, All-weaker}
use Rattle.nx_envelope.specs.Copies.{Copy, closed_copy, copies, ended_copies, ended_copy, headers}
use Rattle.nx_sync.specs.Laws.{Extends, same, newer, GoesOn, stands_still, is_past}
use Rattle.nx_sync.specs.Locks.{IsLocked, IsNow, IsPast, Lock, Now, Past, hunting, locked}
use Rattle.nx_sync.specs.Words.{first_role, whole_words, word_of_lock}
use Rattle.nx_sync.specs.declared.step.Change.{Change}
use Rattle.nx_sync.specs.declared.step.Change.TheVariants.{Ended, LostLock}
use Rattle.nx_sync.proofs.lemmas.states.KeptPast.{IsReleased-less}
use Rattle.nx_sync.proofs.lemmas.states.StateChanges.{goes-on}
use Rattle.nx_copies.specs.copies.FoundCopies.{all_in, found_copy}
use Rattle.nx_copies.specs.copies.LockText.{lock_text}
use Rattle.nx_copies.proofs.lemmas.locks.Found.{IsCopyIn, all_in_placed, text_placed}
use Rattle.nx_copies.proofs.lemmas.locks.Told.{past_of, whole_heard}
use Rattle.nx_copies.proofs.lemmas.emissions.Copies.{copy_at}
use Rattle.nx_copies.proofs.lemmas.locks.Found.{filter_map-all}
use Rattle.nx_copies.proofs.lemmas.once.Rising.{contains_map}
use Rattle.nx_combine.specs.CopyPositions.{ended_placed, standing_placed}
use Rattle.nx_combine.specs.CopyPositions.{PlacedCopy, lock_bytes, lock_positions, past_placed, placed}
use Rattle.nx_combine.specs.CopyPositions.{placed_to_end, positions_in_past}
use Rattle.nx_promises.specs.laws.Together.{IsOfLostLock}
use Rattle.nx_copies.proofs.lemmas.locks.Told.{past_now}

-- The copy is one of the lock at t, which has so many words at least, with its positions in
-- whatever way the lock ended.
pub record IsOfLock (bits : List Bool) (locks : List Lock) (t words : ℕ) (copy : PlacedCopy)
    : Type 0 where
  pub n : ℕ
  pub long : words ≤ n
  pub how : Change
  pub one : Copy
  pub there : Contains (copies (lock_bytes bits t n)) one
  pub found : copy.found ≡ found_copy (lock_text bits t n) one
  pub positions : copy.positions ≡ positions_in_past how (lock_positions bits t n) one.header
  pub lost : how ≡ LostLock → IsOfLostLock locks copy

-- the lock at t, of so many words, is one of these that was lost
record IsLost (locks : List Lock) (t n : ℕ) : Type 0 where
  lock : Lock
  among : Contains locks lock
  how : lock.how ≡ LostLock
  at : lock.at ≡ t
  last : n ≡ lock.last + 1

-- a copy in the text of a lock stands at a bit of it
copy_placed : (bits : List Bool) (t n : ℕ) (one : Copy) → Contains (copies (lock_bytes bits t n))
    one
    → IsCopyIn t (t + 7 * n) (found_copy (lock_text bits t n) one)
copy_placed bits t n one there =
    let text = lock_text bits t n in
    All-contains (IsCopyIn t (t + 7 * n)) (all_in text) (found_copy text one)
    (all_in_placed t (t + 7 * n) text (text_placed (first_role bits t) (word_of_lock bits t) t n))
    (contains_map (found_copy text) (copies (lock_bytes bits t n)) one there)

module _ (bits : List Bool) (all_locks : List Lock) (t m : ℕ) where
  -- if its place is one of the first m words of the lock, it is of the lock
  abbrev pub Belongs : PlacedCopy → Type 0
  Belongs copy = t ≤ copy.found.place → copy.found.place < t + 7 * m
      → IsOfLock bits all_locks t m copy

  abbrev pub made : Change → ℕ → ℕ → Copy → PlacedCopy
  made how s n copy = record {
    found = found_copy (lock_text bits s n) copy;
    positions = positions_in_past how (lock_positions bits s n) copy.header;
  }

  -- a lock that ends before it, or begins behind its first words
  apart : (how : Change) (s n : ℕ) → (s + 7 * n ≤ t) ⊎ (t + 7 * m ≤ s)
      → All Belongs (placed (positions_in_past how) bits s n (copies (lock_bytes bits s n)))
  apart how s n away =
      All-map Belongs (made how s n) (copies (lock_bytes bits s n))
      (All-weaker (Contains (copies (lock_bytes bits s n))) (λ one. Belongs (made how s n one))
      (λ one there low high. let at = copy_placed bits s n one there in
      elim away [
        | inl before ↦ absurd (omega (arith, at.1, low, before))
        | inr behind ↦ absurd (omega (arith, at.0, high, behind))
      ]) (copies (lock_bytes bits s n)) (All-contains_itself (copies (lock_bytes bits s n))))

  -- the lock itself
  itself : (how : Change) (n : ℕ) → m ≤ n → (how ≡ LostLock → IsLost all_locks t n)
      → All Belongs (placed (positions_in_past how) bits t n (copies (lock_bytes bits t n)))
  itself how n long lost_so =
      All-map Belongs (made how t n) (copies (lock_bytes bits t n))
      (All-weaker (Contains (copies (lock_bytes bits t n))) (λ one. Belongs (made how t n one))
      (λ one there low high. record {
        n = n;
        long = long;
        how = how;
        one = one;
        there = there;
        found = refl;
        positions = refl;
        lost = λ is. let lost = lost_so is in
            record {
              lock = lost.lock;
              among = lost.among;
              lost = lost.how;
              from = omega (arith, lost.at, low);
              to = omega (arith, lost.at, lost.last, high, long);
            };
      }) (copies (lock_bytes bits t n)) (All-contains_itself (copies (lock_bytes bits t n))))

  older-apart : (locks : List Lock) (p : ℕ) → Past bits locks p → p ≤ t
      → All Belongs (past_placed bits locks)
  unfolding Past past_placed
  older-apart [] p past le = All-nil Belongs
  older-apart (lock ∷ older) p past le =
      let after = past.0.found.after in
      let next = past.0.next in
      All-append Belongs (past_placed bits older) _
      (older-apart older lock.from past.1 (omega (arith, after, next, le)))
      (apart lock.how lock.at (lock.last + 1) (inl (omega (arith, next, le))))

  -- newer locks begin behind those that are past
  newer-apart : (locks ks : List Lock) (p : ℕ) → Extends locks ks → Past bits locks p
      → ((q : ℕ) → Past bits ks q → t + 7 * m ≤ q) → All Belongs (past_placed bits ks)
      → All Belongs (past_placed bits locks) × (t + 7 * m ≤ p)
  unfolding Past past_placed
  newer-apart locks ks p same past behind all = (all, behind p past)
  newer-apart (lock ∷ locks) ks p (newer e) past behind all =
      let rest = newer-apart locks ks lock.from e past.1 behind all in
      let after = past.0.found.after in
      let next = past.0.next in (
        All-append Belongs (past_placed bits locks) _ rest.0
            (apart lock.how lock.at (lock.last + 1) (inr (omega (arith, after, rest.1)))),
        omega (arith, after, next, rest.1),
      )

  -- what stands behind it
  standing-apart : (locks : List Lock) (now : Now) → IsNow bits locks now
      → ((p : ℕ) → Past bits locks p → All Belongs (past_placed bits locks) × (t + 7 * m ≤ p))
      → All Belongs (placed_to_end bits locks now)
  unfolding placed_to_end
  standing-apart locks (hunting p) is past =
      All-append Belongs (past_placed bits locks) [] (past p is.past).0 (All-nil Belongs)
  standing-apart locks (locked p s) is past =
      let before = past p is.past in
      All-append Belongs (past_placed bits locks) _ before.0
      (apart Ended s (whole_words bits s) (inr (omega (arith, is.found.after, before.1))))

-- a lock that stood, and is past after more bits, had no more words than it has in all
not_over_yet : (bits more : List Bool) (ls : List Lock) (p : ℕ) (lock : Lock) (q : ℕ)
    → IsLocked bits ls p lock.at → IsPast (bits ++ more) lock q
    → whole_words bits lock.at ≤ lock.last + 1
not_over_yet bits more ls p lock q is past =
    elim (cases_lt (lock.last + 1) (whole_words bits lock.at)) [
      | inl beyond ↦
          let heard : lock.at + 7 * (lock.last + 1) ≤ length bits =
          omega (arith, whole_heard bits lock.at is.found.here.heard) in
          absurd (is.holds lock.last lock.how
          (IsReleased-less bits more lock.at lock.last is.found.here.enough heard past.released))
      | inr within ↦ within
    ]

Ended≢LostLock : Ended ≡ LostLock → ⊥
Ended≢LostLock e = cc

among : (locks ls : List Lock) (lock : Lock) → Extends locks (lock ∷ ls) → Contains locks lock
among locks ls lock same = (0, omega arith, refl)
among (other ∷ locks) ls lock (newer e) =
    Contains-append_right (other ∷ []) locks lock (among locks ls lock e)

-- the lock that stood is past
over : (bits more : List Bool) (ls locks : List Lock) (p : ℕ) (lock : Lock) (now : Now)
    → IsLocked bits ls p lock.at → IsNow (bits ++ more) locks now → Extends locks (lock ∷ ls)
    → All (Belongs (bits ++ more) locks lock.at (whole_words bits lock.at))
    (placed_to_end (bits ++ more) locks now)
unfolding Past past_placed
over bits more ls locks p lock now is stands x =
    let all = bits ++ more in
    let m = whole_words bits lock.at in
    standing-apart all locks lock.at m locks now stands (λ r past.
    let this = past_of all locks (lock ∷ ls) r x past in
    let long = not_over_yet bits more ls p lock this.0 is this.1.0 in
    newer-apart all locks lock.at m locks (lock ∷ ls) r x past
    (λ q behind. omega (arith, behind.0.next, long))
    (All-append (Belongs all locks lock.at m) (past_placed all ls) _
    (older-apart all locks lock.at m ls lock.from this.1.1 (omega (arith, this.1.0.found.after)))
    (itself all locks lock.at m lock.how (lock.last + 1) long (λ is. record {
      lock = lock;
      among = among locks ls lock x;
      how = is;
      at = refl;
      last = refl;
    }))))

belong_by : (bits more : List Bool) (ls locks : List Lock) (p t : ℕ) (now : Now)
    → IsLocked bits ls p t → IsNow (bits ++ more) locks now → GoesOn ls (locked p t) locks now
    → All (Belongs (bits ++ more) locks t (whole_words bits t))
    (placed_to_end (bits ++ more) locks now)
unfolding placed_to_end
belong_by bits more ls locks p t now is stands stands_still =
    let longer = length-append bits more in
    All-append (Belongs (bits ++ more) ls t (whole_words bits t)) (past_placed (bits ++ more) ls) _
    (older-apart (bits ++ more) ls t (whole_words bits t) ls p stands.past
    (omega (arith, stands.found.after)))
    (itself (bits ++ more) ls t (whole_words bits t) Ended (whole_words (bits ++ more) t)
    (omega (arith, longer)) (λ is. absurd (Ended≢LostLock is)))
belong_by bits more ls locks p t now is stands (is_past lock e a x) =
    subst (λ (u : ℕ). IsLocked bits ls p u
    → All (Belongs (bits ++ more) locks u (whole_words bits u))
    (placed_to_end (bits ++ more) locks now)) a
    (λ is. over bits more ls locks p lock now is stands x) is

-- Each copy that is found, whatever bits follow, belongs to the lock that stood, if its place is
-- among the words that were heard of that.
pub copies_belong : (bits more : List Bool) (ls locks : List Lock) (p t : ℕ) (now : Now)
    → IsLocked bits ls p t → IsNow (bits ++ more) locks now
    → All (Belongs (bits ++ more) locks t (whole_words bits t))
    (placed_to_end (bits ++ more) locks now)
copies_belong bits more ls locks p t now is stands =
    belong_by bits more ls locks p t now is stands
    (goes-on bits more ls locks (locked p t) now is stands)

-- The lock that stood is among the locks, with so many words at least; its copies are found.
pub record IsAmong (bits : List Bool) (locks : List Lock) (now : Now) (t words : ℕ) : Type 0 where
  pub n : ℕ
  pub long : words ≤ n
  pub how : Change
  pub each : (one : Copy) → Contains (copies (lock_bytes bits t n)) one
      → Contains (placed_to_end bits locks now) (made bits locks t words how t n one)

past_among : (bits : List Bool) (locks ls : List Lock) (lock : Lock) (copy : PlacedCopy)
    → Extends locks (lock ∷ ls)
    → Contains (placed (positions_in_past lock.how) bits lock.at (lock.last + 1)
    (copies (lock_bytes bits lock.at (lock.last + 1)))) copy
    → Contains (past_placed bits locks) copy
unfolding past_placed
past_among bits locks ls lock copy same there =
    Contains-append_right (past_placed bits ls) _ copy there
past_among bits (other ∷ locks) ls lock copy (newer e) there =
    Contains-append_left (past_placed bits locks) _ copy
    (past_among bits locks ls lock copy e there)

among_over : (bits more : List Bool) (ls locks : List Lock) (p : ℕ) (lock : Lock) (now : Now)
    → IsLocked bits ls p lock.at → IsNow (bits ++ more) locks now → Extends locks (lock ∷ ls)
    → IsAmong (bits ++ more) locks now lock.at (whole_words bits lock.at)
unfolding Past placed_to_end
among_over bits more ls locks p lock now is stands x =
    let all = bits ++ more in
    let past = past_now all locks now stands in
    let this = past_of all locks (lock ∷ ls) past.0 x past.1 in
    record {
      n = lock.last + 1;
      long = not_over_yet bits more ls p lock this.0 is this.1.0;
      how = lock.how;
      each = λ one there.
          let m = whole_words bits lock.at in
          Contains-append_left (past_placed all locks) _ _
          (past_among all locks ls lock _ x
          (contains_map (made all locks lock.at m lock.how lock.at (lock.last + 1))
          (copies (lock_bytes all lock.at (lock.last + 1))) one there));
    }

among_by : (bits more : List Bool) (ls locks : List Lock) (p t : ℕ) (now : Now)
    → IsLocked bits ls p t → IsNow (bits ++ more) locks now → GoesOn ls (locked p t) locks now
    → IsAmong (bits ++ more) locks now t (whole_words bits t)
unfolding placed_to_end
among_by bits more ls locks p t now is stands stands_still =
    let all = bits ++ more in
    let longer = length-append bits more in
    record {
      n = whole_words all t;
      long = omega (arith, longer);
      how = Ended;
      each = λ one there.
          Contains-append_right (past_placed all ls) _ _
          (contains_map (made all ls t (whole_words bits t) Ended t (whole_words all t))
          (copies (lock_bytes all t (whole_words all t))) one there);
    }
among_by bits more ls locks p t now is stands (is_past lock e a x) =
    subst (λ (u : ℕ). IsLocked bits ls p u
    → IsAmong (bits ++ more) locks now u (whole_words bits u)) a
    (λ is. among_over bits more ls locks p lock now is stands x) is

pub lock_among : (bits more : List Bool) (ls locks : List Lock) (p t : ℕ) (now : Now)
    → IsLocked bits ls p t → IsNow (bits ++ more) locks now
    → IsAmong (bits ++ more) locks now t (whole_words bits t)
lock_among bits more ls locks p t now is stands =
    among_by bits more ls locks p t now is stands
    (goes-on bits more ls locks (locked p t) now is stands)

-- ---- the copies that have ended so far are among those to the end

-- a copy that has ended in a text is one of its copies
ended_one : (bytes : List ℕ) → All (Contains (copies bytes)) (ended_copies bytes)
unfolding ended_copies copies
ended_one bytes =
    filter_map-all (Contains (headers bytes)) (Contains (copies bytes)) (ended_copy bytes)
    (λ h copy there e.
    let same : copy_at bytes h ≡ copy = ap (λ o. unwrap_or o (closed_copy bytes h)) e in
    subst (Contains (copies bytes)) same (contains_map (copy_at bytes) (headers bytes) h there))
    (headers bytes) (All-contains_itself (headers bytes))

standing_within : (bits : List Bool) (now : Now)
    → All (Contains (standing_placed copies bits now)) (standing_placed ended_copies bits now)
standing_within bits (hunting p) = All-nil (Contains [])
standing_within bits (locked p t) =
    let n = whole_words bits t in
    let bytes = lock_bytes bits t n in
    All-map (Contains (standing_placed copies bits (locked p t))) (made bits [] t n Ended t n)
    (ended_copies bytes)
    (All-weaker (Contains (copies bytes))
    (λ one. Contains (standing_placed copies bits (locked p t)) (made bits [] t n Ended t n one))
    (λ one there. contains_map (made bits [] t n Ended t n) (copies bytes) one there)
    (ended_copies bytes) (ended_one bytes))

pub ended_within : (bits : List Bool) (locks : List Lock) (now : Now) (copy : PlacedCopy)
    → Contains (ended_placed bits locks now) copy → Contains (placed_to_end bits locks now) copy
unfolding ended_placed placed_to_end
ended_within bits locks now copy there =
    elim (Contains-append_cases (past_placed bits locks) (standing_placed ended_copies bits now)
    copy
    there) [
      | inl past ↦ Contains-append_left (past_placed bits locks) _ copy past
      | inr standing ↦ Contains-append_right (past_placed bits locks) _ copy
          (All-contains (Contains (standing_placed copies bits now))
          (standing_placed ended_copies bits now) copy (standing_within bits now) standing)
    ]
