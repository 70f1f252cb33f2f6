-- The report of the locks in the bits that a receiver has heard: for each lock the line that opens
-- it, its text, and the lines that close it; and one last line (this profile). `moments` has the
-- moment in force at each bit, in seconds since 1970-01-01 00:00:00 UTC.
use Rattle.std.specs.Prelude.{◌≡◌, ℕ, ◌+◌, ◌-◌, Bool, List, [], ◌∷◌, ◌++◌, length}
use Rattle.std.specs.Prelude.{slice_index_or}
use Rattle.nx_envelope.specs.Moment.{IsShownAs}
use Rattle.nx_sync.specs.Locks.{Lock, Now, hunting, locked, IsNow}
use Rattle.nx_sync.specs.Words.{last_bit, whole_words}
use Rattle.nx_sync.specs.declared.step.Change.{Change}
use Rattle.nx_sync.specs.declared.step.Change.TheVariants.{Locked}
use Rattle.nx_copies.specs.copies.Log.{missing_newline}
use Rattle.nx_locks.specs.LockText.{headers_shown, shown_text, wrong_words}
use Rattle.nx_locks.specs.ReportText.{closing_lines, last_line, opening_line}

-- the moment in force at the bit with this index
abbrev pub moment_at : List ℕ → ℕ → ℕ
moment_at moments place = slice_index_or moments place 0

-- the bytes open the lock at t, with the civil time of the moment at the last bit of its pattern
pub record IsOpening (moments : List ℕ) (t : ℕ) (bytes : List ℕ) : Type 0 where
  pub civil : List ℕ
  pub shown : IsShownAs (moment_at moments (t - 1)) civil
  pub spelled : bytes ≡ opening_line civil t

-- the bytes close the lock at t after n words, of which this came, with the civil time of this
-- moment
pub record IsClosing (bits : List Bool) (t n : ℕ) (how : Change) (moment : ℕ) (bytes : List ℕ)
    : Type 0 where
  pub civil : List ℕ
  pub shown : IsShownAs moment civil
  pub spelled :
      bytes ≡ closing_lines civil how n (wrong_words bits t n) (headers_shown bits t n)

-- the bytes are the line that opens the lock at t, and the text of its first n words as it comes
pub record IsOpened (bits : List Bool) (moments : List ℕ) (t n : ℕ) (bytes : List ℕ)
    : Type 0 where
  pub opening : List ℕ
  pub opens : IsOpening moments t opening
  pub spelled : bytes ≡ opening ++ shown_text bits t n

-- the same with the lines that close it, after a newline where the text isn't empty and doesn't end
-- with one
pub record IsShown (bits : List Bool) (moments : List ℕ) (t n : ℕ) (how : Change) (moment : ℕ)
    (bytes : List ℕ) : Type 0 where
  pub opened : List ℕ
  pub opens : IsOpened bits moments t n opened
  pub closing : List ℕ
  pub closes : IsClosing bits t n how moment closing
  pub spelled : bytes ≡ opened ++ missing_newline (shown_text bits t n) ++ closing

-- a lock that was released is closed at the moment in force at the last bit of the releasing word
abbrev pub IsPastShown : List Bool → List ℕ → Lock → List ℕ → Type 0
IsPastShown bits moments lock bytes =
    IsShown bits moments lock.at (lock.last + 1) lock.how
    (moment_at moments (last_bit lock.at lock.last)) bytes

-- The bytes show the locks that were released, which stand newest first, in the order in which they
-- came.
unfoldable pub AreShown : List Bool → List ℕ → List Lock → List ℕ → Type 0
AreShown bits moments [] bytes = bytes ≡ []
AreShown bits moments (lock ∷ older) bytes =
    (before : List ℕ) × (this : List ℕ) × AreShown bits moments older before
    × IsPastShown bits moments lock this × (bytes ≡ before ++ this)

-- the bytes show the lock that stands so far, if one does
abbrev pub IsNowShown : List Bool → List ℕ → Now → List ℕ → Type 0
IsNowShown bits moments (hunting p) bytes = bytes ≡ []
IsNowShown bits moments (locked p t) bytes = IsOpened bits moments t (whole_words bits t) bytes

-- and closed where the bits end, with the moment that is in force then
abbrev pub IsEndShown : List Bool → List ℕ → ℕ → Now → List ℕ → Type 0
IsEndShown bits moments ending (hunting p) bytes = bytes ≡ []
IsEndShown bits moments ending (locked p t) bytes =
    IsShown bits moments t (whole_words bits t) Locked ending bytes

-- how many headers stand in the texts of the locks that were released
unfoldable pub past_headers : List Bool → List Lock → ℕ
past_headers bits [] = 0
past_headers bits (lock ∷ older) =
    past_headers bits older + headers_shown bits lock.at (lock.last + 1)

-- how many stand in that of the lock that stands, if one does
abbrev pub now_headers : List Bool → Now → ℕ
now_headers bits (hunting p) = 0
now_headers bits (locked p t) = headers_shown bits t (whole_words bits t)

-- how many locks stand: one, or none
abbrev pub now_locks : Now → ℕ
now_locks (hunting p) = 0
now_locks (locked p t) = 1

-- The report of these bits so far: each lock that was ended or lost, with the lines that close it,
-- and the lock that stands, if one does, without them. The last line isn't in it.
pub record IsReportSoFar (bits : List Bool) (moments : List ℕ) (bytes : List ℕ) : Type 0 where
  pub locks : List Lock
  pub now : Now
  pub stands : IsNow bits locks now
  pub past : List ℕ
  pub shown : AreShown bits moments locks past
  pub rest : List ℕ
  pub standing : IsNowShown bits moments now rest
  pub spelled : bytes ≡ past ++ rest

-- The report of these bits, where they are all, and this moment is in force at the end.
pub record IsReport (bits : List Bool) (moments : List ℕ) (ending : ℕ) (bytes : List ℕ)
    : Type 0 where
  pub locks : List Lock
  pub now : Now
  pub stands : IsNow bits locks now
  pub past : List ℕ
  pub shown : AreShown bits moments locks past
  pub rest : List ℕ
  pub standing : IsEndShown bits moments ending now rest
  pub spelled : bytes ≡ past ++ rest ++ last_line (length bits) (length locks + now_locks now)
      (past_headers bits locks + now_headers bits now)
