-- What a taker of elements holds that shows their locks, and after which elements it stands (this
-- profile).
use Rattle.std.specs.Prelude.{◌≡◌, ℕ, ◌+◌, ◌-◌, ◌*◌, ◌^◌, ◌<◌, ◌≤◌, Bool, if◌then◌else◌, List, []}
use Rattle.std.specs.Prelude.{◌∷◌, ◌++◌, length, map, min, Option, Some, None}
use Rattle.std.specs.Option.{option_to_list}
use Rattle.nx_envelope.specs.Moment.{IsShownAs}
use Rattle.nx_code.specs.Reading.{newline}
use Rattle.nx_sync.specs.Synchroniser.{Held, StandsAfter}
use Rattle.nx_sync.specs.Locks.{Lock, Now, hunting, locked, IsNow}
use Rattle.nx_sync.specs.Words.{word_of_lock, first_role, whole_words}
use Rattle.nx_sync.specs.declared.step.Change.{Change}
use Rattle.nx_sync.specs.declared.step.Role.{Role}
use Rattle.nx_sync.specs.declared.step.Step.{Step}
use Rattle.nx_locks.specs.Report.{AreShown, IsNowShown, now_headers, now_locks, past_headers}
use Rattle.nx_locks.specs.ReportText.{closing_lines, opening_line}
use Rattle.nx_locks.specs.private.Reader.{HearsWord, IsFresh, Reading, ReadsLock, one_more}

-- What contracts see of a taker: the reader of the lock's text, and the moment. It counts the
-- elements that were heard, the locks that began, and the headers in the texts of those that are
-- over; and it has the bytes that were shown since it was last cleared.
pub record Taking : Type 0 where
  pub reader : Reading
  pub moment : ℕ
  pub elements : ℕ
  pub locks : ℕ
  pub copies : ℕ
  pub shown : List ℕ

-- the reader stands after the words that were heard whole of the lock that stands, if one does
abbrev pub ReadsNow : Reading → List Bool → Now → Type 0
ReadsNow reader bits (hunting p) = IsFresh reader
ReadsNow reader bits (locked p t) =
    ReadsLock reader (first_role bits t) (word_of_lock bits t) (whole_words bits t)

-- After these bits, with the moment in force at each, these bytes are the report so far. The reader
-- stands after the words of the lock that stands. The locks that began are counted, and the headers
-- of those that are over.
pub record Shows (reader : Reading) (locks_began copies : ℕ) (bits : List Bool) (moments : List ℕ)
    (given : List ℕ) : Type 0 where
  pub locks : List Lock
  pub now : Now
  pub stands : IsNow bits locks now
  pub many : length moments ≡ length bits
  pub past : List ℕ
  pub shown : AreShown bits moments locks past
  pub rest : List ℕ
  pub standing : IsNowShown bits moments now rest
  pub spelled : given ≡ past ++ rest
  pub reads : ReadsNow reader bits now
  pub locks_counted : locks_began ≡ length locks + now_locks now
  pub copies_counted : copies ≡ past_headers bits locks
  pub few_locks : length locks + now_locks now ≤ length bits
  pub few_copies : past_headers bits locks + now_headers bits now ≤ length bits

-- the same of a taker, which counted the bits, fewer than a counter counts
pub record TakerShows (taker : Taking) (bits : List Bool) (moments : List ℕ) (given : List ℕ)
    : Type 0 where
  pub elements : taker.elements ≡ length bits
  pub room : length bits < 2 ^ 64
  pub shows : Shows taker.reader taker.locks taker.copies bits moments given

-- the moment at each of these elements
unfoldable pub all_at : ℕ → List Bool → List ℕ
all_at moment bits = map (λ bit. moment) bits

-- bytes were shown behind those before them, and with them the taker shows these bits
pub record GoesTo (taker : Taking) (bits : List Bool) (moments given before : List ℕ) : Type 0
  where
    pub more : List ℕ
    pub grown : taker.shown ≡ before ++ more
    pub shows : TakerShows taker bits moments (given ++ more)

-- A synchroniser heard these elements, and a taker took what they bring: after whatever bits both
-- stood, fewer than a counter counts, the taker shows these elements after them. An element brings
-- at most 113 bytes.
pub record Hears (before : Held) (old : Taking) (heard : List Bool) (after : Held) (new : Taking)
    : Type 0 where
  pub stands : (bits : List Bool) → StandsAfter before bits → StandsAfter after (bits ++ heard)
  pub shows : (bits : List Bool) (moments given : List ℕ) → StandsAfter before bits
      → TakerShows old bits moments given → length bits + length heard < 2 ^ 64
      → GoesTo new (bits ++ heard) (moments ++ all_at old.moment heard) given old.shown
  pub moment : new.moment ≡ old.moment
  pub few : length new.shown ≤ length old.shown + 113 * length heard

-- There is room for what so many elements bring. A line of an air file has at most 512 elements,
-- and these are all.
abbrev pub HasRoom : Taking → ℕ → Type 0
HasRoom taker count = length taker.shown + 113 * count ≤ 57856

-- a lock was opened
pub record Opens (old new : Taking) : Type 0 where
  pub civil : List ℕ
  pub shown : IsShownAs old.moment civil
  pub kept : new ≡ record old {
    locks = one_more old.locks;
    shown = old.shown ++ opening_line civil old.elements;
  }

-- what closes a lock of which the reader read the words
abbrev pub closing_of : Reading → List ℕ → Change → List ℕ
closing_of reader civil how =
    (if reader.is_line_open then newline ∷ [] else [])
    ++ closing_lines civil how reader.words reader.wrong reader.copies

-- a lock was closed, and the headers in its text were counted
pub record Closes (old new : Taking) (how : Change) : Type 0 where
  pub civil : List ℕ
  pub shown : IsShownAs old.moment civil
  pub fresh : IsFresh new.reader
  pub kept : new ≡ record old {
    reader = new.reader;
    copies = min (old.copies + old.reader.copies) (2 ^ 64 - 1);
    shown = old.shown ++ closing_of old.reader civil how;
  }

-- what a taker holds once its reader heard a word, which printed this
abbrev pub with_word : Taking → Reading → Option ℕ → Taking
with_word taker reader printed =
    record taker { reader = reader; shown = taker.shown ++ option_to_list printed }

-- the lock goes on after a word, or is over with it
abbrev pub ReadsTo : Taking → Taking → Option Change → Type 0
ReadsTo heard new None = new ≡ heard
ReadsTo heard new (Some how) = Closes heard new how

-- a word was read, whichever lock it is of
pub record ReadsWord (old new : Taking) (word : ℕ) (role : Role) (change : Option Change) : Type 0
  where
    pub reader : Reading
    pub printed : Option ℕ
    pub hears : HearsWord old.reader reader word role printed
    pub to : ReadsTo (with_word old reader printed) new change

-- what a step brings was shown
pub record ShowsStep (old new : Taking) (step : Step) : Type 0 where
  pub nothing : step.word ≡ None → step.change ≡ None → new ≡ old
  pub opens : (how : Change) → step.word ≡ None → step.change ≡ Some how → Opens old new
  pub word : (word : ℕ) (role : Role) → step.word ≡ Some (word, role)
      → ReadsWord old new word role step.change
