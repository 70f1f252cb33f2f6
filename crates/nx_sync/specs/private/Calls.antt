-- What the parts of a push, a word and a hunt answer, for the contracts of the synchroniser's
-- private functions. The contracts of the public ones speak of the locks over all bits.
use Rattle.std.specs.Prelude.{◌≡◌, ℕ, ◌+◌, ◌*◌, ◌/◌, ◌%◌, ◌^◌, ◌<◌, ◌≤◌, ◌==◌, nat_le, min, Bool}
use Rattle.std.specs.Prelude.{◌&&◌, ◌⊎◌, List, [], ◌∷◌, ◌++◌, length, take, count_by, Option}
use Rattle.std.specs.Prelude.{Some, None, if◌then◌else◌}
use Rattle.circular_buffer.specs.Buffer.{keep_last}
use Rattle.nx_code.specs.Table.{phasing_1}
use Rattle.nx_code.specs.Word.{value_of, is_wrong}
use Rattle.nx_sync.specs.declared.track.Track.{Track}
use Rattle.nx_sync.specs.declared.step.Step.{Step}
use Rattle.nx_sync.specs.declared.step.Role.{Role}
use Rattle.nx_sync.specs.declared.step.Change.{Change}
use Rattle.nx_sync.specs.declared.step.Change.TheVariants.{Locked, Ended, LostLock}
use Rattle.nx_sync.specs.Words.{marked_words, losing_count, other_role, is_dx}
use Rattle.nx_sync.specs.Locks.{pattern_elements}
use Rattle.nx_sync.specs.private.Windows.{role_after, last_word, next_window, window_after}
use Rattle.nx_sync.specs.Steps.{step}
use Rattle.nx_sync.specs.Synchroniser.{Held}

-- the track of a lock whose first word has the role
abbrev pub track_from : Role → Track
track_from role = record { role = role; filled = 0; was_p1 = 0 }

-- the track after a word
abbrev pub track_after : Track → ℕ → Track
track_after track word = record {
  role = other_role track.role;
  filled = 0;
  was_p1 = track.was_p1 / 2 + 2 ^ 4 * value_of (is_dx track.role && (word == phasing_1));
}

-- whether the word that the track fills releases the lock as Ended: the words three and five before
-- it are DX words, and phasing signal 1
abbrev pub fills_releasing_word : Track → Bool
fills_releasing_word track = (track.was_p1 % 2 == 1) && (track.was_p1 / 4 % 2 == 1)

-- which change a word brings, by the track before it and by whether it loses the lock
abbrev pub change_by : Track → Bool → Option Change
change_by track is_lost =
    if fills_releasing_word track
    then Some Ended
    else (if is_lost then Some LostLock else None)

-- which change a word brings, by the track before it and the marks of the last words with its own
abbrev pub change_of : Track → List Bool → Option Change
change_of track wrong = change_by track (nat_le losing_count (count_by (λ b. b) wrong))

-- A lock begins: it is followed from a first word with this role, no mark is left, and the step
-- says that a lock was found.
abbrev pub BeginsLock : Held → Role → Held → Step → Type 0
BeginsLock old role new s =
    (new ≡ record old { track = Some (track_from role); wrong = [] })
    × (s ≡ step None (Some Locked))

-- An element fills a word further: the track counts it, and the step brings nothing.
abbrev pub Fills : Held → Track → Held → Step → Type 0
Fills old track new s =
    (new ≡ record old { track = Some (record track { filled = track.filled + 1 }) })
    × (s ≡ step None None)

-- A word is complete: its number is that of the last seven bits, its mark is added, and the track
-- goes on, or there is none any more where the word brings a change.
pub record Completes (old : Held) (track : Track) (new : Held) (s : Step) : Type 0 where
  pub recent : new.recent ≡ old.recent
  pub seen : new.seen ≡ old.seen
  pub marks : new.wrong ≡ keep_last marked_words (old.wrong ++ is_wrong (last_word old.recent) ∷ [])
  pub change : s.change ≡ change_of track new.wrong
  pub word : s.word ≡ Some (last_word old.recent, track.role)
  pub goes_on : s.change ≡ None → new.track ≡ Some (track_after track (last_word old.recent))
  pub over : (how : Change) → s.change ≡ Some how → new.track ≡ None

-- what is held after one element was heard, before it is looked at
abbrev pub heard_one : Held → Bool → Held
heard_one held bit = record held {
  recent = next_window held.recent bit;
  seen = min (held.seen + 1) pattern_elements;
}

-- what is held after these elements were heard, before any is looked at
abbrev pub heard_all : Held → List Bool → Held
heard_all held bits = record held {
  recent = window_after held.recent bits;
  seen = min (held.seen + length bits) pattern_elements;
}

-- too few elements were heard for a pattern, or the last 28 are none
abbrev pub IsQuiet : Held → Type 0
IsQuiet held = (held.seen < pattern_elements) ⊎ (role_after held.recent ≡ None)

-- the last 28 elements are a pattern
pub record EndsPattern (held : Held) : Type 0 where
  pub enough : pattern_elements ≤ held.seen
  pub role : Role
  pub here : role_after held.recent ≡ Some role

-- The first n of these elements were heard, none of which ends a pattern.
pub record Passes (old : Held) (bits : List Bool) (n : ℕ) (new : Held) : Type 0 where
  pub within : n ≤ length bits
  pub held : new ≡ heard_all old (take n bits)
  pub quiet : (k : ℕ) → k < n → IsQuiet (heard_all old (take (k + 1) bits))

-- The same, and there are some of them, unless the first one of all ends a pattern.
pub record SkipsSome (old : Held) (bits : List Bool) (n : ℕ) (new : Held) : Type 0 where
  pub passes : Passes old bits n new
  pub stops : n ≡ 0 → EndsPattern (heard_all old (take 1 bits))

-- The first n of these elements were heard, none of which ends a pattern; the next one does, if
-- there is one.
pub record Skips (old : Held) (bits : List Bool) (n : ℕ) (new : Held) : Type 0 where
  pub within : n ≤ length bits
  pub held : new ≡ heard_all old (take n bits)
  pub quiet : (k : ℕ) → k < n → IsQuiet (heard_all old (take (k + 1) bits))
  pub stops : n < length bits → EndsPattern (heard_all old (take (n + 1) bits))

-- The first n of these elements were heard, all of them too early for a pattern; the next one, if
-- there is one, is not.
pub record SkipsEarly (old : Held) (bits : List Bool) (n : ℕ) (new : Held) : Type 0 where
  pub within : n ≤ length bits
  pub held : new ≡ heard_all old (take n bits)
  pub early : 0 < n → old.seen + n < pattern_elements
  pub late : n < length bits → pattern_elements ≤ old.seen + n + 1
