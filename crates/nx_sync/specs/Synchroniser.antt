-- What a synchroniser holds, and after which bits: the layer contract. How it is held is this
-- profile's.
use Rattle.std.specs.Prelude.{◌≡◌, ℕ, zero, suc, ◌+◌, ◌-◌, ◌*◌, ◌<◌, ◌==◌, nat_le, min}
use Rattle.std.specs.Prelude.{Bool, false, not, is_some, ◌&&◌, ◌||◌, List, [], ◌∷◌, ◌++◌, length}
use Rattle.std.specs.Prelude.{replicate, count_by, Option, Some, None}
use Rattle.circular_buffer.specs.Buffer.{keep_last}
use Rattle.nx_sync.specs.declared.step.Role.{Role}
use Rattle.nx_sync.specs.declared.track.Track.{Track}
use Rattle.nx_code.specs.Table.{phasing_1}
use Rattle.nx_code.specs.Word.{number_of, is_wrong, word_elements}
use Rattle.nx_sync.specs.Words.{marked_words, losing_count, word_of_lock, first_role, role_of}
use Rattle.nx_sync.specs.Words.{is_dx}
use Rattle.nx_sync.specs.Locks.{pattern_elements, Lock, Now, hunting, locked, IsNow}

-- What contracts see of a synchroniser. Of the bits they see the last 28 as a number, the oldest in
-- the least place, and how many of them were heard. Of the lock they see the word that is being
-- filled where one stands, and whether each of its last words was wrong.
pub record Held : Type 0 where
  pub recent : ℕ
  pub seen : ℕ
  pub track : Option Track
  pub wrong : List Bool

-- whether no lock stands
abbrev pub is_hunting : Held → Bool
is_hunting held = not (is_some held.track)

abbrev pub is_at_limit : Option Track → Bool
is_at_limit None = false
is_at_limit (Some track) = track.filled == 0

-- whether a lock stands, and the next bit is the first of a word
abbrev pub is_between_words : Held → Bool
is_between_words held = is_at_limit held.track

-- whether the next bit is the first of a DX word, and neither of the two DX words before it, of
-- which the track keeps whether they were phasing signal 1, was that
abbrev pub awaits_free_dx : Option Track → Bool
awaits_free_dx None = false
awaits_free_dx (Some track) = (track.filled == 0) && is_dx track.role && (track.was_p1 == 0)

-- whether one of the DX words among these, of which the first is one, is phasing signal 1
unfoldable pub has_dx_phasing_1 : List ℕ → Bool
has_dx_phasing_1 [] = false
has_dx_phasing_1 (dx ∷ []) = dx == phasing_1
has_dx_phasing_1 (dx ∷ rx ∷ words) = (dx == phasing_1) || has_dx_phasing_1 words

-- Whether surely none of these words, which come next, brings a change. A lock stands between two
-- words, and the first of them is a DX word. Neither one of the DX words among them nor one of the
-- two before them is phasing signal 1. And were all of them wrong, fewer words would be wrong than
-- lose the lock.
abbrev pub keeps_lock : Held → List ℕ → Bool
keeps_lock held words =
    awaits_free_dx held.track && not (has_dx_phasing_1 words)
    && nat_le (count_by (λ b. b) held.wrong + length words + 1) losing_count

-- whether each of the first n words is wrong
unfoldable pub wrong_marks : (ℕ → ℕ) → ℕ → List Bool
wrong_marks words zero = []
wrong_marks words (suc n) = wrong_marks words n ++ is_wrong (words n) ∷ []

-- whether word i - 5 is there, is a DX word, and is phasing signal 1, by the role of word 0
abbrev pub was_p1 : Role → (ℕ → ℕ) → ℕ → Bool
was_p1 first words i =
    nat_le 5 i && is_dx (role_of first (i - 5)) && (words (i - 5) == phasing_1)

-- whether each of the five words before word n is a DX word that is phasing signal 1
unfoldable pub p1_marks : Role → (ℕ → ℕ) → ℕ → List Bool
p1_marks first words n =
    was_p1 first words n ∷ was_p1 first words (n + 1) ∷ was_p1 first words (n + 2)
    ∷ was_p1 first words (n + 3) ∷ was_p1 first words (n + 4) ∷ []

-- the track follows the lock at t: `whole` words are complete, and `filled` bits of the next one
-- were heard
pub record Follows (bits : List Bool) (t : ℕ) (wrong : List Bool) (track : Track) : Type 0 where
  pub whole : ℕ
  pub place : length bits ≡ t + (word_elements * whole + track.filled)
  pub short : track.filled < word_elements
  pub role : track.role ≡ role_of (first_role bits t) whole
  pub phasing : track.was_p1
      ≡ number_of (p1_marks (first_role bits t) (word_of_lock bits t) whole)
  pub marks : wrong ≡ keep_last marked_words (wrong_marks (word_of_lock bits t) whole)

pub record IsFollowed (bits : List Bool) (t : ℕ) (wrong : List Bool) (track : Option Track)
    : Type 0 where
  pub one : Track
  pub is : track ≡ Some one
  pub follows : Follows bits t wrong one

abbrev pub Tracks : List Bool → Now → List Bool → Option Track → Type 0
Tracks bits (hunting p) wrong track = track ≡ None
Tracks bits (locked p t) wrong track = IsFollowed bits t wrong track

-- The layer contract: this is what a synchroniser holds after these bits. `locks` and `now` are
-- what stands then by the definition of the locks.
pub record StandsAfter (held : Held) (bits : List Bool) : Type 0 where
  pub locks : List Lock
  pub now : Now
  pub stands : IsNow bits locks now
  pub recent : held.recent
      ≡ number_of (keep_last pattern_elements (replicate pattern_elements false ++ bits))
  pub seen : held.seen ≡ min pattern_elements (length bits)
  pub tracks : Tracks bits now held.wrong held.track
