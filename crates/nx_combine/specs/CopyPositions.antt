-- The positions of the copies that are found in the bits that a receiver has heard (ITU-R M.625,
-- mode B, for positions and their two words; what is left out where a lock is lost is this
-- profile's). `first` is the role of word 0 of a lock, and `words` gives each word's number.
use Rattle.std.specs.Prelude.{ℕ, ◌+◌, nat_le, Bool, false, ◌&&◌}
use Rattle.std.specs.Prelude.{if◌then◌else◌, List, [], ◌∷◌, ◌++◌, length, take, drop, map, reverse}
use Rattle.std.specs.Prelude.{slice_get, unwrap_or}
use Rattle.std.specs.List.{find, range_with_len}
use Rattle.std.specs.Option.{option_map_or}
use Rattle.nx_code.specs.Reading.{Reception, text}
use Rattle.nx_code.specs.declared.shifts.Shift.TheVariants.{Letters}
use Rattle.nx_envelope.specs.Copies.{Copy, copies, ended_copies}
use Rattle.nx_envelope.specs.Header.{Header}
use Rattle.nx_sync.specs.Locks.{Lock, Now, hunting, locked}
use Rattle.nx_sync.specs.Words.{first_role, whole_words, word_of_lock}
use Rattle.nx_sync.specs.declared.step.Change.{Change}
use Rattle.nx_sync.specs.declared.step.Change.TheVariants.{LostLock}
use Rattle.nx_copies.specs.Events.{Event, Setting, setting_at}
use Rattle.nx_copies.specs.copies.AlikeWords.{alike}
use Rattle.nx_copies.specs.copies.FoundCopies.{FoundCopy, TaggedCopy, found_copy, tag}
use Rattle.nx_copies.specs.copies.LockText.{bytes_of, lock_text, positions}
use Rattle.nx_combine.specs.PositionEnds.{has_ended, up_to_end}

-- the positions of a lock, and of each whether its two words count alike
pub record LockPositions : Type 0 where
  pub taken : List Reception
  pub alike : List Bool

-- those of the first n words of the lock at t, in these bits
abbrev pub lock_positions : List Bool → ℕ → ℕ → LockPositions
lock_positions bits t n = record {
  taken = positions (first_role bits t) (word_of_lock bits t) n;
  alike = alike (first_role bits t) (word_of_lock bits t) n;
}

-- the position of this index and the next one are both of words that count alike
abbrev pub are_alike_from : List Bool → ℕ → Bool
are_alike_from marks i =
    unwrap_or (slice_get marks i) false && unwrap_or (slice_get marks (i + 1)) false

-- How many positions stand up to the last two in a row whose words count alike, these two among
-- them; none where there are no two. What stands behind them in a lock that was lost is noise.
unfoldable pub sure_count : List Bool → ℕ
sure_count marks =
    option_map_or (λ i. i + 2)
    (find (are_alike_from marks) (reverse (range_with_len 0 (length marks)))) 0

-- how many of the positions, the fewest, print so many bytes, from letters
unfoldable pub positions_for : List Reception → ℕ → ℕ
positions_for taken count =
    unwrap_or
    (find (λ n. nat_le count (length (text (take n taken) Letters)))
    (range_with_len 0 (length taken)))
    (length taken)

-- the positions behind the one of the second digit of a header
abbrev pub behind_header : List Reception → Header → List Reception
behind_header taken header = drop (positions_for taken header.behind) taken

-- the positions of the copy with this header, in a lock with these positions: those behind its
-- header up to its end, or to the end of the lock
abbrev pub positions_of : List Reception → Header → List Reception
positions_of taken header = up_to_end (behind_header taken header)

-- The same in a lock that was lost. Of a copy that ended with the lock, what stands behind the last
-- two positions of the lock in a row whose words count alike is left out.
unfoldable pub positions_in_lost : LockPositions → Header → List Reception
positions_in_lost lock header =
    if has_ended (behind_header lock.taken header) then positions_of lock.taken header
    else drop (positions_for lock.taken header.behind) (take (sure_count lock.alike) lock.taken)

-- the positions of a copy in a lock that was released so
abbrev pub positions_in_past : Change → LockPositions → Header → List Reception
positions_in_past LostLock lock header = positions_in_lost lock header
positions_in_past how lock header = positions_of lock.taken header

-- a copy that is found, and its positions
pub record PlacedCopy : Type 0 where
  pub found : FoundCopy
  pub positions : List Reception

-- these copies of the first n words of the lock at t, with their positions by a rule
abbrev pub placed : (LockPositions → Header → List Reception) → List Bool → ℕ → ℕ → List Copy
    → List PlacedCopy
placed rule bits t n copies =
    map (λ copy. record {
      found = found_copy (lock_text bits t n) copy;
      positions = rule (lock_positions bits t n) copy.header;
    }) copies

-- the text that the first n words of the lock at t print
abbrev pub lock_bytes : List Bool → ℕ → ℕ → List ℕ
lock_bytes bits t n = bytes_of (lock_text bits t n)

-- the copies of the locks that were released, which stand newest first; the text of each is at its
-- end
unfoldable pub past_placed : List Bool → List Lock → List PlacedCopy
past_placed bits [] = []
past_placed bits (lock ∷ older) =
    past_placed bits older
    ++ placed (positions_in_past lock.how) bits lock.at (lock.last + 1)
    (copies (lock_bytes bits lock.at (lock.last + 1)))

-- some copies of the lock that stands, if one does: those of the words that were heard whole
abbrev pub standing_placed : (List ℕ → List Copy) → List Bool → Now → List PlacedCopy
standing_placed chosen bits (hunting p) = []
standing_placed chosen bits (locked p t) =
    placed (λ lock header. positions_of lock.taken header) bits t (whole_words bits t)
    (chosen (lock_bytes bits t (whole_words bits t)))

-- the copies that have ended after these bits, where these locks are past and this stands
unfoldable pub ended_placed : List Bool → List Lock → Now → List PlacedCopy
ended_placed bits locks now = past_placed bits locks ++ standing_placed ended_copies bits now

-- the copies where the bits end: the text of the lock that stands ends with them
unfoldable pub placed_to_end : List Bool → List Lock → Now → List PlacedCopy
placed_to_end bits locks now = past_placed bits locks ++ standing_placed copies bits now

-- a copy that was heard: tagged, and with its positions
pub record HeardCopy : Type 0 where
  pub copy : TaggedCopy
  pub positions : List Reception

-- copies with what is in force at the second digit of each, in the same order
unfoldable pub heard_copies : Setting → List Event → List PlacedCopy → List HeardCopy
heard_copies first events copies =
    map (λ placed. record {
      copy = tag (setting_at first events placed.found.place) placed.found;
      positions = placed.positions;
    }) copies
