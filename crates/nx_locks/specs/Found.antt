-- What a log and a report of the same elements have in common: the texts of the locks (this
-- profile).
use Rattle.std.specs.Prelude.{◌≡◌, ℕ, ◌+◌, Bool, List, [], ◌∷◌, ◌++◌, Contains}
use Rattle.nx_envelope.specs.Copies.{Copy, copies}
use Rattle.nx_sync.specs.Locks.{Lock, Now, hunting, locked}
use Rattle.nx_sync.specs.Words.{whole_words}
use Rattle.nx_copies.specs.copies.FoundCopies.{TaggedCopy}
use Rattle.nx_locks.specs.LockText.{shown_text}

-- the texts of the locks that were released, which stand newest first, in the order in which they
-- came
unfoldable pub past_texts : List Bool → List Lock → List (List ℕ)
past_texts bits [] = []
past_texts bits (lock ∷ older) =
    past_texts bits older ++ shown_text bits lock.at (lock.last + 1) ∷ []

-- the text of the lock that stands, if one does
abbrev pub now_texts : List Bool → Now → List (List ℕ)
now_texts bits (hunting p) = []
now_texts bits (locked p t) = shown_text bits t (whole_words bits t) ∷ []

-- the texts of all locks, in order
abbrev pub shown_texts : List Bool → List Lock → Now → List (List ℕ)
shown_texts bits locks now = past_texts bits locks ++ now_texts bits now

-- the text stands in these bytes
pub record StandsIn (text bytes : List ℕ) : Type 0 where
  pub before : List ℕ
  pub after : List ℕ
  pub whole : bytes ≡ before ++ text ++ after

-- the copy is one of those in one of these texts: its identity, how it ended and its text are
pub record IsCopyAmong (texts : List (List ℕ)) (copy : TaggedCopy) : Type 0 where
  pub text : List ℕ
  pub among : Contains texts text
  pub found : Copy
  pub here : Contains (copies text) found
  pub identity : copy.identity ≡ found.header.identity
  pub how : copy.how ≡ found.how
  pub same : copy.text ≡ found.text
